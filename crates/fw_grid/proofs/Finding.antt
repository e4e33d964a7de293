-- The node that is found at a correct seat's place.
use Rattle.std.proofs.Common.{◌≡◌, ◌≤◌, ℕ, Bool, false, List, Option, Some, None, Bor, IsTrue, length, slice_get, sym, ap, ◌∙◌, arith, subst, inl, inr}
use Rattle.std.specs.Prelude.{IfSome, IfNone}
use Rattle.std.specs.Option.{option_copied}
use Rattle.std.proofs.lemmas.Option.{slice_get_cases}
use Rattle.fw_base.specs.declared.params.Params.{Params}
use Rattle.fw_base.specs.declared.seat.Seat.{Seat}
use Rattle.fw_step.specs.Fitting.{is_correct}
use Rattle.fw_directory.specs.Directories.{PlainDirectory}
use Rattle.fw_pool.specs.Notes.{Log}
use Rattle.fw_fair.specs.Correct.{kind_of, count_below, correct_at, place_of}
use Rattle.fw_fair.proofs.Seats.{many_of, at_place}
use Rattle.fw_grid.specs.Nodes.{AreSeated, AreStanding, Stands}
use Rattle.fw_grid.specs.Seen.{histories}
use Rattle.fw_grid.specs.Staged.{IsNodeOf}

-- the seats of the kind of a seat, as they stand
abbrev pub Kept : {N : Type 0} → (N → Params) → (N → Seat) → Params → List Seat → Seat → List N → Type 0
Kept sizes own p faulty seat nodes = AreSeated sizes own p (correct_at faulty (kind_of p seat) (many_of p seat)) (count_below faulty (kind_of p seat) (many_of p seat)) nodes

abbrev pub Standing : {N : Type 0} → Stands N → (N → Bool) → PlainDirectory → List Seat → Log → Seat → List N → Type 0
Standing stands stopped d faulty log seat nodes = AreStanding stands stopped d (λ k. histories log (correct_at faulty (kind_of d.params seat) (many_of d.params seat) k)) nodes

pub node_found : {N : Type 0} (sizes : N → Params) (own : N → Seat) (stands : Stands N) (stopped : N → Bool) (d : PlainDirectory) (faulty : List Seat) (log : Log) (nodes : List N) (seat : Seat) (place : ℕ) (found : Option (Bor N)) → option_copied found ≡ slice_get nodes place
    → IsTrue (is_correct d.params faulty seat) × (place ≡ place_of d.params faulty seat) → Kept sizes own d.params faulty seat nodes → Standing stands stopped d faulty log seat nodes
    → IfSome found (λ node. IsNodeOf sizes own stands stopped d faulty log seat node.now)
node_found sizes own stands stopped d faulty log nodes seat place None at is seated standing = tt
node_found sizes own stands stopped d faulty log nodes seat place (Some node) at is seated standing =
    let there : correct_at faulty (kind_of d.params seat) (many_of d.params seat) place ≡ seat =
    ap (correct_at faulty (kind_of d.params seat) (many_of d.params seat)) is.1 ∙ (at_place d.params faulty seat is.0).1 in
    let stand = standing place node.now (sym at) in
    record {
      there = is.0;
      same_sizes = seated.sizes place node.now (sym at);
      same_seat = seated.seats place node.now (sym at) ∙ there;
      running = stand.0;
      standing = subst (λ (s : Seat). stands node.now d (histories log s)) there stand.1;
    }

pub node_missing : {N : Type 0} (sizes : N → Params) (own : N → Seat) (p : Params) (faulty : List Seat) (nodes : List N) (seat : Seat) (place : ℕ) (found : Option (Bor N)) → option_copied found ≡ slice_get nodes place
    → IsTrue (is_correct p faulty seat) × (place ≡ place_of p faulty seat) → Kept sizes own p faulty seat nodes → IfNone found (is_correct p faulty seat ≡ false)
node_missing sizes own p faulty nodes seat place (Some node) at is seated = tt
node_missing sizes own p faulty nodes seat place None at is seated =
    let many = seated.many in
    let within = (at_place p faulty seat is.0).0 in
    let here = is.1 in
    elim ((slice_get_cases nodes place).1) [
      | inl some ↦ absurd (let wrong : ◌≡◌ {A = Option _} None (Some some.0) = at ∙ some.2 in cc)
      | inr past ↦ absurd (let beyond = past.0 in omega arith)
    ]
