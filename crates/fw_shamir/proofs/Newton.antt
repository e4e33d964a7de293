-- A polynomial by its points, one point at a time.
use Rattle.std.proofs.Common.{ℕ, ◌≡◌, ◌≢◌, ◌<◌, ◌≤◌, zero, suc, List, [], ◌∷◌, length, get_or, drop, refl, sym, ap, ap₂, ◌∙◌, arith, lit<}
use Rattle.std.specs.Prelude.{bit_xor}
use Rattle.std.specs.Int.Bits.{xor_assoc, xor_comm, xor_self, xor_zero_r}
use Rattle.fw_shamir.specs.Field.{gf_product}
use Rattle.fw_shamir.specs.Steps.{inverse_of, lowered, interpolated, HaveBytes}
use Rattle.fw_shamir.specs.Polynomial.{eval, AreBytes, Passes, places_of, IsAbsent, AreDistinct}
use Rattle.fw_shamir.specs.declared.sharing.Point.{Point}
use Rattle.fw_shamir.proofs.Laws.{xor_4, xor_cancel, xor-fits, gf-fits, gf_comm, gf_assoc, gf_add_left, gf_add_right, gf-one, gf-zero}
use Rattle.fw_shamir.proofs.Steps.{inverse-works}

pub eval-fits : (cs : List ℕ) (x : ℕ) → AreBytes cs → eval cs x < 256
unfolding eval
eval-fits [] x h = lit< tt
eval-fits (c ∷ cs) x h = xor-fits c (gf_product x (eval cs x)) h.0 (gf-fits x (eval cs x))

-- the polynomial of the last coefficient alone
pub eval-last : (cs : List ℕ) (x k : ℕ) → suc k ≡ length cs → get_or cs k 0 ≡ eval (drop k cs) x
unfolding eval
eval-last [] x k count = absurd (omega arith)
eval-last (c ∷ []) x zero count = sym (ap (bit_xor c) (gf-zero x) ∙ xor_zero_r c)
eval-last (c ∷ d ∷ cs) x zero count = absurd (omega arith)
eval-last (c ∷ cs) x (suc k) count = eval-last cs x k (omega arith)

-- the values at x of the polynomial and of its tails, each without the coefficients before
tails : List ℕ → ℕ → List ℕ
tails [] x = []
tails (c ∷ cs) x = eval (c ∷ cs) x ∷ tails cs x

length-tails : (cs : List ℕ) (x : ℕ) → length (tails cs x) ≡ length cs
unfolding tails
length-tails [] x = refl
length-tails (c ∷ cs) x = ap suc (length-tails cs x)

tails-fit : (cs : List ℕ) (x : ℕ) → AreBytes cs → AreBytes (tails cs x)
unfolding tails
tails-fit [] x h = tt
tails-fit (c ∷ cs) x h = (eval-fits (c ∷ cs) x h, tails-fit cs x h.1)

pub gf_swap : (a b c : ℕ) → gf_product a (gf_product b c) ≡ gf_product b (gf_product a c)
gf_swap a b c = sym (gf_assoc a b c) ∙ ap (λ (x : ℕ). gf_product x c) (gf_comm a b) ∙ gf_assoc b a c

-- z P(z) - x P(x) is z - x times the polynomial of the tails
shifted : (cs : List ℕ) (x z : ℕ) → bit_xor (gf_product z (eval cs z)) (gf_product x (eval cs x)) ≡ gf_product (bit_xor z x) (eval (tails cs x) z)
unfolding eval tails
shifted [] x z = ap₂ (λ (a b : ℕ). bit_xor a b) (gf-zero z) (gf-zero x) ∙ sym (gf-zero (bit_xor z x))
shifted (c ∷ cs) x z =
    let pz = eval cs z in
    let px = eval cs x in
    let e = eval (tails cs x) z in
    ap₂ (λ (a b : ℕ). bit_xor a b) (gf_add_right z c (gf_product z pz)) (gf_add_right x c (gf_product x px))
    ∙ xor_4 (gf_product z c) (gf_product z (gf_product z pz)) (gf_product x c) (gf_product x (gf_product x px))
    ∙ sym (
    gf_add_right (bit_xor z x) (bit_xor c (gf_product x px)) (gf_product z e)
    ∙ ap₂ (λ (a b : ℕ). bit_xor a b)
    (gf_add_right (bit_xor z x) c (gf_product x px) ∙ ap₂ (λ (a b : ℕ). bit_xor a b) (gf_add_left z x c) (gf_add_left z x (gf_product x px)))
    (gf_swap (bit_xor z x) z e ∙ ap (gf_product z) (sym (shifted cs x z)) ∙ gf_add_right z (gf_product z pz) (gf_product x px))
    ∙ xor_cancel (bit_xor (gf_product z c) (gf_product x c)) (gf_product z (gf_product x px)) (gf_product x (gf_product x px)) (gf_product z (gf_product z pz))
    )

-- (P - P(x)) / (X - x)
quotient : List ℕ → ℕ → List ℕ
quotient [] x = []
quotient (c ∷ cs) x = tails cs x

length-quotient : (cs : List ℕ) (x n : ℕ) → length cs ≤ suc n → length (quotient cs x) ≤ n
unfolding quotient
length-quotient [] x n h = omega arith
length-quotient (c ∷ cs) x n h = omega (arith, length-tails cs x)

quotient-fits : (cs : List ℕ) (x : ℕ) → AreBytes cs → AreBytes (quotient cs x)
unfolding quotient
quotient-fits [] x h = tt
quotient-fits (c ∷ cs) x h = tails-fit cs x h.1

difference : (cs : List ℕ) (x z : ℕ) → bit_xor (eval cs z) (eval cs x) ≡ gf_product (bit_xor z x) (eval (quotient cs x) z)
unfolding eval quotient
difference [] x z = sym (gf-zero (bit_xor z x))
difference (c ∷ cs) x z =
    xor_4 c (gf_product z (eval cs z)) c (gf_product x (eval cs x))
    ∙ ap (λ (a : ℕ). bit_xor a (bit_xor (gf_product z (eval cs z)) (gf_product x (eval cs x)))) (xor_self c)
    ∙ shifted cs x z

-- what a sum lacks
moved : (a b d : ℕ) → bit_xor a b ≡ d → bit_xor b d ≡ a
moved a b d h =
    ap (bit_xor b) (sym h ∙ xor_comm a b) ∙ sym (xor_assoc b b a) ∙ ap (λ (x : ℕ). bit_xor x a) (xor_self b)

pub apart : (a b : ℕ) → a ≢ b → bit_xor a b ≢ 0
apart a b ne e = ne (sym (moved a b 0 e) ∙ xor_zero_r b)

-- a product divided
divided : (d e : ℕ) → d < 256 → d ≢ 0 → e < 256 → gf_product (gf_product d e) (inverse_of d) ≡ e
divided d e fits some small =
    ap (λ (x : ℕ). gf_product x (inverse_of d)) (gf_comm d e) ∙ gf_assoc e d (inverse_of d)
    ∙ ap (gf_product e) (inverse-works d fits some) ∙ gf-one e small

-- no point is at this place, and no two are at one
abbrev pub AreAway : ℕ → List Point → Type 0
AreAway x ps = IsAbsent x (places_of ps)

abbrev pub AreApart : List Point → Type 0
AreApart ps = AreDistinct (places_of ps)

-- the places are bytes
abbrev pub AtFit : List Point → Type 0
AtFit [] = Unit {0}
AtFit (p ∷ ps) = (p.at < 256) × AtFit ps

pub length-lowered : (p : Point) (ps : List Point) → length (lowered p ps) ≡ length ps
length-lowered p [] = refl
length-lowered p (q ∷ qs) = ap suc (length-lowered p qs)

lowered-away : (x : ℕ) (p : Point) (ps : List Point) → AreAway x ps → AreAway x (lowered p ps)
lowered-away x p [] h = tt
lowered-away x p (q ∷ qs) h = (h.0, lowered-away x p qs h.1)

pub lowered-apart : (p : Point) (ps : List Point) → AreApart ps → AreApart (lowered p ps)
lowered-apart p [] h = tt
lowered-apart p (q ∷ qs) h = (lowered-away q.at p qs h.0, lowered-apart p qs h.1)

pub lowered-fit : (p : Point) (ps : List Point) → AtFit ps → AtFit (lowered p ps)
lowered-fit p [] h = tt
lowered-fit p (q ∷ qs) h = (h.0, lowered-fit p qs h.1)

lowered-passes : (cs : List ℕ) (p : Point) (ps : List Point) → AreBytes cs → p.at < 256 → AtFit ps → AreAway p.at ps → eval cs p.at ≡ p.value → Passes cs ps → Passes (quotient cs p.at) (lowered p ps)
lowered-passes cs p [] bytes fits at_fit away is pass = tt
lowered-passes cs p (q ∷ qs) bytes fits at_fit away is pass =
    let d = bit_xor q.at p.at in
    let e = eval (quotient cs p.at) q.at in (
      sym (ap (λ (x : ℕ). gf_product x (inverse_of d)) (ap₂ (λ (a b : ℕ). bit_xor a b) (sym pass.0) (sym is) ∙ difference cs p.at q.at)
          ∙ divided d e (xor-fits q.at p.at at_fit.0 fits) (apart q.at p.at away.0) (eval-fits (quotient cs p.at) q.at (quotient-fits cs p.at bytes))),
      lowered-passes cs p qs bytes fits at_fit.1 away.1 is pass.1,
    )

-- the points of a polynomial give its value anywhere
pub interpolates : (n z : ℕ) (cs : List ℕ) (ps : List Point) → length ps ≡ n → length cs ≤ n → AreBytes cs → AtFit ps → AreApart ps → Passes cs ps → interpolated n z ps ≡ eval cs z
unfolding interpolated eval
interpolates zero z [] ps count short bytes at_fit away pass = refl
interpolates zero z (c ∷ cs) ps count short bytes at_fit away pass = absurd (omega arith)
interpolates (suc n) z cs [] count short bytes at_fit away pass = absurd (omega arith)
interpolates (suc n) z cs (p ∷ ps) count short bytes at_fit away pass =
    let rest = interpolates n z (quotient cs p.at) (lowered p ps) (length-lowered p ps ∙ omega arith) (length-quotient cs p.at n short)
    (quotient-fits cs p.at bytes) (lowered-fit p ps at_fit.1) (lowered-apart p ps away.1)
    (lowered-passes cs p ps bytes at_fit.0 at_fit.1 away.0 pass.0 pass.1) in
    ap₂ (λ (a b : ℕ). bit_xor a (gf_product (bit_xor z p.at) b)) (sym pass.0) rest
    ∙ moved (eval cs z) (eval cs p.at) (gf_product (bit_xor z p.at) (eval (quotient cs p.at) z)) (difference cs p.at z)

pub at_fit : (ps : List Point) → HaveBytes ps → AtFit ps
at_fit [] h = tt
at_fit (p ∷ ps) h = (h.0, at_fit ps h.2)
