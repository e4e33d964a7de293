-- A correct node's view counts, and one that is faulty has none.
use Rattle.std.proofs.Common.{◌≡◌, ◌<◌, ℕ, Bool, true, false, List, sym, ap, ap₂, ◌∙◌}
use Rattle.std.specs.Prelude.{not, max, ◌&&◌, if◌then◌else◌}
use Rattle.std.proofs.lemmas.Bool.{and_parts, lt-ltb}
use Rattle.fw_base.specs.declared.seat.Seat.{Seat}
use Rattle.fw_base.specs.declared.seat.Seat.TheVariants.{Agree}
use Rattle.fw_base.specs.Sizes.{agreements}
use Rattle.fw_base.specs.Seats.{fits}
use Rattle.fw_step.specs.Fitting.{is_faulty}
use Rattle.fw_seen.specs.Summary.{view_at}
use Rattle.fw_world.proofs.viewing.with_view_of.Goals as goal

second_false : (a b : Bool) → a ≡ true → (a && b) ≡ false → b ≡ false
second_false true b holds both = both
second_false false b holds both = absurd (let wrong : ◌≡◌ {A = Bool} false true = holds in cc)

pub returns-in-Some : goal.returns-in-Some
returns-in-Some c = λ d faulty keys played.
    let w = c.args.world.now.seen in
    let i = c.args.i in
    let correct : not (is_faulty faulty (Agree i)) ≡ true =
    ap (λ (f : List Seat). not (is_faulty f (Agree i))) (sym played.faulty_seats) ∙ (and_parts (fits w.directory.params (Agree i)) (not (is_faulty w.faulty (Agree i))) c.in-Some.ensures.correct).1 in
    c.greater.ensures ∙ ap (max c.args.greatest) (c.in-Some.ensures.found d faulty keys played)
    ∙ sym (ap (λ (b : Bool). if b then max c.args.greatest (view_at d w.trace i) else c.args.greatest) correct)

pub returns-in-None : goal.returns-in-None
returns-in-None c = λ d faulty keys played.
    let w = c.args.world.now.seen in
    let i = c.args.i in
    let there : fits w.directory.params (Agree i) ≡ true = lt-ltb i (agreements w.directory.params) c.requires.fits in
    let wrong : not (is_faulty faulty (Agree i)) ≡ false =
    ap (λ (f : List Seat). not (is_faulty f (Agree i))) (sym played.faulty_seats) ∙ second_false (fits w.directory.params (Agree i)) (not (is_faulty w.faulty (Agree i))) there c.in-None.ensures.none in
    sym (ap (λ (b : Bool). if b then max c.args.greatest (view_at d w.trace i) else c.args.greatest) wrong)
