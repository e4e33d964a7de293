-- What is found at a number stands in its list; and who leads.
use Rattle.std.proofs.Common.{ℕ, ◌≡◌, true, nat_eq, List, sym, ◌∙◌, ap, subst, Some}
use Rattle.std.specs.Prelude.{◌&&◌}
use Rattle.std.proofs.lemmas.Bool.{eqb-true, and_parts}
use Rattle.std.proofs.lemmas.Option.{same_Some}
use Rattle.fw_base.specs.Sizes.{primary}
use Rattle.fw_trace.specs.Lists.{In}
use Rattle.fw_source.proofs.Listed.{first_at-in}
use Rattle.fw_frame.specs.View.{Entry, Agreed}
use Rattle.fw_rules.specs.Agree.{Self, Node, Cast, Pledge, cast_at, cast_if, pledge_at, pledge_if, is_primary, agreed_at}
use Rattle.fw_law_words.proofs.Tests.{when-some}
use Rattle.fw_law_words.proofs.Firsts.{first_some-in}

pub lead_of : {M : Type 0} (me : Self M) (x : Node) → is_primary me x ≡ true → primary me.means.params x.own.view ≡ me.own
lead_of me x e = sym (eqb-true _ _ e)

pub agreed_in : (x : Node) (n : ℕ) (a : Agreed) → agreed_at x n ≡ Some a → In a x.committed
agreed_in x n a e =
    let t = first_at-in (λ (c : Agreed). Some (c.number, c)) x.committed n a e in
    let same : t.item ≡ a = ap (λ (z : ℕ × Agreed). z.1) (same_Some (t.item.number, t.item) (n, a) t.read) in
    subst (λ (z : Agreed). In z x.committed) same t.inside

pub cast_in : (x : Node) (m : ℕ) (entry : Entry) → cast_at x x.own.view m ≡ Some entry → In (record { view = x.own.view; number = m; entry = entry }) x.own.casts
cast_in x m entry e =
    let c = first_some-in (cast_if x.own.view m) x.own.casts entry e in
    let w = when-some (nat_eq c.0.view x.own.view && nat_eq c.0.number m) (Some c.0.entry) entry c.2 in
    let k = and_parts (nat_eq c.0.view x.own.view) (nat_eq c.0.number m) w.0 in
    let same : c.0 ≡ record { view = x.own.view; number = m; entry = entry } =
    ap (λ (v : ℕ). record { view = v; number = c.0.number; entry = c.0.entry }) (eqb-true c.0.view x.own.view k.0)
    ∙ (ap (λ (n : ℕ). record { view = x.own.view; number = n; entry = c.0.entry }) (eqb-true c.0.number m k.1)
    ∙ ap (λ (z : Entry). record { view = x.own.view; number = m; entry = z }) (same_Some c.0.entry entry w.1)) in
    subst (λ (z : Cast). In z x.own.casts) same c.1

pub pledge_in : (x : Node) (m : ℕ) (d : List ℕ) → pledge_at x x.own.view m ≡ Some d → In (record { view = x.own.view; number = m; digest = d }) x.own.pledges
pledge_in x m d e =
    let c = first_some-in (pledge_if x.own.view m) x.own.pledges d e in
    let w = when-some (nat_eq c.0.view x.own.view && nat_eq c.0.number m) (Some c.0.digest) d c.2 in
    let k = and_parts (nat_eq c.0.view x.own.view) (nat_eq c.0.number m) w.0 in
    let same : c.0 ≡ record { view = x.own.view; number = m; digest = d } =
    ap (λ (v : ℕ). record { view = v; number = c.0.number; digest = c.0.digest }) (eqb-true c.0.view x.own.view k.0)
    ∙ (ap (λ (n : ℕ). record { view = x.own.view; number = n; digest = c.0.digest }) (eqb-true c.0.number m k.1)
    ∙ ap (λ (z : List ℕ). record { view = x.own.view; number = m; digest = z }) (same_Some c.0.digest d w.1)) in
    subst (λ (z : Pledge). In z x.own.pledges) same c.1
