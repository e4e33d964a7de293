-- The order of names is total, and what its answers tell.
use Rattle.std.proofs.Common.{◌≡◌, ℕ, true, refl, sym, ap, ◌∙◌, arith}
use Rattle.std.specs.Cmp.{IsTotalOrder}
use Rattle.std.specs.Ordering.{is_lt, is_eq, ordering_reverse, nat_cmp, ordering_then}
use Rattle.std.specs.Cmp.Lexicographic.{slice_cmp}
use Rattle.std.specs.declared.cmp.Ordering.{Ordering}
use Rattle.std.specs.declared.cmp.Ordering.TheVariants.{Less, Equal, Greater}
use Rattle.std.proofs.lemmas.Cmp.{then_total, on_total, nat_cmp_total, nat_list_cmp_total, alike_right}
use Rattle.std.proofs.lemmas.Bool.Decides.{nat_tests}
use Rattle.fw_op.specs.declared.reply.Name.{Name}
use Rattle.fw_op.specs.declared.start.Start.{Start}
use Rattle.fw_store.specs.Store.{name_cmp, name_of, is_named, is_before}

pub names_total : IsTotalOrder name_cmp
unfolding name_cmp
names_total = then_total (on_total (λ (n : Name). n.owner) nat_cmp_total) (on_total (λ (n : Name). n.key) nat_list_cmp_total)

pub lt-is : (o : Ordering) → is_lt o ≡ true → o ≡ Less
lt-is Less h = refl
lt-is Equal h = cc
lt-is Greater h = cc

pub eq-is : (o : Ordering) → is_eq o ≡ true → o ≡ Equal
eq-is Less h = cc
eq-is Equal h = refl
eq-is Greater h = cc

then-equal : (o p : Ordering) → ordering_then o p ≡ Equal → o ≡ Equal
then-equal Less p h = h
then-equal Equal p h = refl
then-equal Greater p h = h

nat_cmp-equal : (a b : ℕ) → nat_cmp a b ≡ Equal → a ≡ b
nat_cmp-equal a b h = grind (arith, nat_tests)

-- the names of one record have one owner
pub named-owner : (n : Name) (r : Start) → is_named n r ≡ true → r.owner ≡ n.owner
unfolding name_cmp
named-owner n r h = nat_cmp-equal r.owner n.owner (then-equal (nat_cmp r.owner n.owner) (slice_cmp nat_cmp r.key n.key) (eq-is (name_cmp (name_of r) n) h))

-- before, and then before
pub less-less : (a b c : Name) → name_cmp a b ≡ Less → name_cmp b c ≡ Less → name_cmp a c ≡ Less
less-less a b c = names_total.trans a b c

pub equal-less : (a b c : Name) → name_cmp a b ≡ Equal → name_cmp b c ≡ Less → name_cmp a c ≡ Less
equal-less a b c same less = names_total.congr a b c same ∙ less

pub less-equal : (a b c : Name) → name_cmp a b ≡ Less → name_cmp b c ≡ Equal → name_cmp a c ≡ Less
less-equal a b c less same = sym (alike_right names_total b c a same) ∙ less

pub greater-less : (a b : Name) → name_cmp a b ≡ Greater → name_cmp b a ≡ Less
greater-less a b h = names_total.antisymm b a ∙ ap ordering_reverse h

pub less-greater : (a b : Name) → name_cmp a b ≡ Less → name_cmp b a ≡ Greater
less-greater a b h = names_total.antisymm b a ∙ ap ordering_reverse h

pub equal-equal : (a b : Name) → name_cmp a b ≡ Equal → name_cmp b a ≡ Equal
equal-equal a b h = names_total.antisymm b a ∙ ap ordering_reverse h

pub before-before : (a b c : Start) → is_before a b ≡ true → is_before b c ≡ true → is_before a c ≡ true
before-before a b c h i =
    ap is_lt (less-less (name_of a) (name_of b) (name_of c) (lt-is (name_cmp (name_of a) (name_of b)) h) (lt-is (name_cmp (name_of b) (name_of c)) i))
