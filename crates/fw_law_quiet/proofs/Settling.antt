-- After a pass nothing of it is left to choose: what its acts settle stays settled.
use Rattle.std.proofs.Common.{ℕ, zero, suc, ◌+◌, ◌<◌, ◌≡◌, inl, inr, List, [], ◌∷◌, arith, refl, Option, Some, None}
use Rattle.fw_list.specs.Lists.{numbers_from}
use Rattle.fw_trace.specs.Lists.{In}
use Rattle.fw_rules.specs.Agree.{Self, Node, Step, Act, performs, acted, for_each}
use Rattle.fw_rules.specs.Views.{Turn, turns, turned, single}
use Rattle.fw_law_words.proofs.Lists.{In-numbers}
use Rattle.fw_law_node.proofs.Each.{Each, Each-at}

-- ---- a pass over a list

-- each earlier one and each later one are related
abbrev pub AllLater : {A : Type 0} → (A → A → Type 0) → List A → Type 0
AllLater R [] = Unit {0}
AllLater {A} R (a ∷ xs) = ((b : A) → In b xs → R a b) × AllLater R xs

pub all_later : {A : Type 0} (R : A → A → Type 0) (xs : List A) → ((a b : A) → R a b) → AllLater R xs
all_later R [] f = tt
all_later R (a ∷ xs) f = (λ b i. f a b, all_later R xs f)

pub numbers_later : (R : ℕ → ℕ → Type 0) (first count : ℕ) → ((a b : ℕ) → a < b → R a b) → AllLater R (numbers_from first count)
numbers_later R first zero f = tt
numbers_later R first (suc count) f =
    (λ b i. let r = In-numbers b (first + 1) count i in f first b (omega (arith, r.0)), numbers_later R (first + 1) count f)

-- an act chosen at b leaves nothing to choose at a, where there was nothing
abbrev pub Stable : {A M : Type 0} → Self M → (Node → A → Option Act) → A → A → Type 0
Stable me ch a b = (x : Node) (act : Act) → ch x b ≡ Some act → ch x a ≡ None → ch (performs me x act).0 a ≡ None

-- an act settles what it was chosen for
abbrev pub Settles : {A M : Type 0} → Self M → (Node → A → Option Act) → Type 0
Settles {A} me ch = (x : Node) (a : A) (act : Act) → ch x a ≡ Some act → ch (performs me x act).0 a ≡ None

acted_none : {A M : Type 0} (me : Self M) (ch : Node → A → Option Act) (a b : A) → Stable me ch a b → (s : Step M) (o : Option Act) → ch s.0 b ≡ o → ch s.0 a ≡ None → ch (acted me s o).0 a ≡ None
acted_none me ch a b st s None e h = h
acted_none me ch a b st s (Some act) e h = st s.0 act e h

stays_none : {A M : Type 0} (me : Self M) (ch : Node → A → Option Act) (a : A) (xs : List A) → ((b : A) → In b xs → Stable me ch a b) → (s : Step M) → ch s.0 a ≡ None → ch (for_each me ch xs s).0 a ≡ None
stays_none me ch a [] st s h = h
stays_none me ch a (b ∷ xs) st s h =
    stays_none me ch a xs (λ c i. st c (inr i)) (acted me s (ch s.0 b)) (acted_none me ch a b (st b (inl refl)) s (ch s.0 b) refl h)

own_none : {A M : Type 0} (me : Self M) (ch : Node → A → Option Act) (a : A) → Settles me ch → (s : Step M) (o : Option Act) → ch s.0 a ≡ o → ch (acted me s o).0 a ≡ None
own_none me ch a st s None e = e
own_none me ch a st s (Some act) e = st s.0 a act e

each_settled : {A M : Type 0} (me : Self M) (ch : Node → A → Option Act) (xs : List A) → Settles me ch → AllLater (Stable me ch) xs → (s : Step M) → Each (λ a. ch (for_each me ch xs s).0 a ≡ None) xs
each_settled me ch [] st later s = tt
each_settled me ch (a ∷ xs) st later s =
    let next = acted me s (ch s.0 a) in
    (stays_none me ch a xs later.0 next (own_none me ch a st s (ch s.0 a) refl), each_settled me ch xs st later.1 next)

pub settled : {A M : Type 0} (me : Self M) (ch : Node → A → Option Act) (xs : List A) → Settles me ch → AllLater (Stable me ch) xs → (s : Step M) → (a : A) → In a xs → ch (for_each me ch xs s).0 a ≡ None
settled me ch xs st later s a i = Each-at (λ b. ch (for_each me ch xs s).0 b ≡ None) xs a (each_settled me ch xs st later s) i

-- what all acts of a kind leave so, a pass of such acts leaves so
acted_stays : {M : Type 0} (me : Self M) (P : Node → Type 0) (K : Act → Type 0) → ((x : Node) (act : Act) → K act → P x → P (performs me x act).0) → (s : Step M) (o : Option Act) → ((act : Act) → o ≡ Some act → K act) → P s.0 → P (acted me s o).0
acted_stays me P K keep s None is p = p
acted_stays me P K keep s (Some act) is p = keep s.0 act (is act refl) p

pub for_each_stays : {A M : Type 0} (me : Self M) (P : Node → Type 0) (K : Act → Type 0) → ((x : Node) (act : Act) → K act → P x → P (performs me x act).0) → (ch : Node → A → Option Act) → ((x : Node) (a : A) (act : Act) → ch x a ≡ Some act → K act) → (xs : List A) (s : Step M) → P s.0 → P (for_each me ch xs s).0
for_each_stays me P K keep ch is [] s p = p
for_each_stays me P K keep ch is (a ∷ xs) s p =
    for_each_stays me P K keep ch is xs (acted me s (ch s.0 a)) (acted_stays me P K keep s (ch s.0 a) (λ act e. is s.0 a act e) p)

-- ---- a pass of one turn

turned_none : {M : Type 0} (me : Self M) (ch : Node → Option Turn) → ((x : Node) (turn : Turn) → ch x ≡ Some turn → ch (turns me x turn).0 ≡ None) → (s : Step M) (o : Option Turn) → ch s.0 ≡ o → ch (turned me s o).0 ≡ None
turned_none me ch st s None e = e
turned_none me ch st s (Some turn) e = st s.0 turn e

pub single_settled : {M : Type 0} (me : Self M) (ch : Node → Option Turn) → ((x : Node) (turn : Turn) → ch x ≡ Some turn → ch (turns me x turn).0 ≡ None) → (s : Step M) → ch (single me ch s).0 ≡ None
single_settled me ch st s = turned_none me ch st s (ch s.0) refl

turned_stays : {M : Type 0} (me : Self M) (P : Node → Type 0) (ch : Node → Option Turn) → ((x : Node) (turn : Turn) → ch x ≡ Some turn → P x → P (turns me x turn).0) → (s : Step M) (o : Option Turn) → ch s.0 ≡ o → P s.0 → P (turned me s o).0
turned_stays me P ch keep s None e p = p
turned_stays me P ch keep s (Some turn) e p = keep s.0 turn e p

pub single_stays : {M : Type 0} (me : Self M) (P : Node → Type 0) (ch : Node → Option Turn) → ((x : Node) (turn : Turn) → ch x ≡ Some turn → P x → P (turns me x turn).0) → (s : Step M) → P s.0 → P (single me ch s).0
single_stays me P ch keep s p = turned_stays me P ch keep s (ch s.0) refl p
