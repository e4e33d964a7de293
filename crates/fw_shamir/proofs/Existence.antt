-- A polynomial through any points.
use Rattle.std.proofs.Common.{ℕ, ◌≡◌, ◌≢◌, ◌<◌, ◌≤◌, zero, suc, List, [], ◌∷◌, length, refl, sym, ap, ap₂, ◌∙◌, arith}
use Rattle.std.specs.Prelude.{bit_xor}
use Rattle.std.specs.Int.Bits.{xor_assoc, xor_comm, xor_self, xor_zero_r}
use Rattle.fw_shamir.specs.Field.{gf_product}
use Rattle.fw_shamir.specs.Steps.{inverse_of, lowered, interpolated, HaveBytes}
use Rattle.fw_shamir.specs.Polynomial.{eval, AreBytes, HasDegreeBelow, Passes}
use Rattle.fw_shamir.specs.declared.sharing.Point.{Point}
use Rattle.fw_shamir.specs.Sharing.{PointsGive, HavePolynomial}
use Rattle.fw_shamir.proofs.Laws.{xor-fits, gf-fits, gf_comm, gf_add_left, gf_add_right, gf-one, gf-zero}
use Rattle.fw_shamir.proofs.Steps.{inverse-works}
use Rattle.fw_shamir.proofs.Newton.{AreAway, AreApart, AtFit, at_fit, interpolates, apart, length-lowered, lowered-apart, gf_swap, lowered-fit}

-- v + (X - a) C, as coefficients
lifted : ℕ → ℕ → List ℕ → List ℕ
lifted a v [] = v ∷ []
lifted a v (c ∷ cs) = bit_xor v (gf_product a c) ∷ lifted a c cs

length-lifted : (a v : ℕ) (cs : List ℕ) → length (lifted a v cs) ≡ suc (length cs)
unfolding lifted
length-lifted a v [] = refl
length-lifted a v (c ∷ cs) = ap suc (length-lifted a c cs)

lifted-fits : (a v : ℕ) (cs : List ℕ) → v < 256 → AreBytes cs → AreBytes (lifted a v cs)
unfolding lifted
lifted-fits a v [] fits h = (fits, tt)
lifted-fits a v (c ∷ cs) fits h = (xor-fits v (gf_product a c) fits (gf-fits a c), lifted-fits a c cs h.0 h.1)

eval-lifted : (a v : ℕ) (cs : List ℕ) (x : ℕ) → eval (lifted a v cs) x ≡ bit_xor v (gf_product (bit_xor x a) (eval cs x))
unfolding eval lifted
eval-lifted a v [] x = ap (bit_xor v) (gf-zero x ∙ sym (gf-zero (bit_xor x a)))
eval-lifted a v (c ∷ cs) x =
    let e = eval cs x in
    xor_assoc v (gf_product a c) (gf_product x (eval (lifted a c cs) x))
    ∙ ap (bit_xor v) (
    ap (λ (y : ℕ). bit_xor (gf_product a c) (gf_product x y)) (eval-lifted a c cs x)
    ∙ ap (bit_xor (gf_product a c)) (gf_add_right x c (gf_product (bit_xor x a) e))
    ∙ sym (xor_assoc (gf_product a c) (gf_product x c) (gf_product x (gf_product (bit_xor x a) e)))
    ∙ ap₂ (λ (s t : ℕ). bit_xor s t) (xor_comm (gf_product a c) (gf_product x c) ∙ sym (gf_add_left x a c)) (gf_swap x (bit_xor x a) e)
    ∙ sym (gf_add_right (bit_xor x a) c (gf_product x e)))

-- the polynomial of n points
pub through_points : ℕ → List Point → List ℕ
through_points zero ps = []
through_points (suc n) [] = []
through_points (suc n) (p ∷ ps) = lifted p.at p.value (through_points n (lowered p ps))

pub length-through : (n : ℕ) (ps : List Point) → length (through_points n ps) ≤ n
unfolding through_points
length-through zero ps = omega arith
length-through (suc n) [] = omega arith
length-through (suc n) (p ∷ ps) = omega (arith, length-lifted p.at p.value (through_points n (lowered p ps)), length-through n (lowered p ps))

-- its value anywhere
pub eval-through : (n z : ℕ) (ps : List Point) → eval (through_points n ps) z ≡ interpolated n z ps
unfolding through_points interpolated eval
eval-through zero z ps = refl
eval-through (suc n) z [] = refl
eval-through (suc n) z (p ∷ ps) = eval-lifted p.at p.value (through_points n (lowered p ps)) z ∙ ap (λ (y : ℕ). bit_xor p.value (gf_product (bit_xor z p.at) y)) (eval-through n z (lowered p ps))

abbrev pub ValuesFit : List Point → Type 0
ValuesFit [] = Unit {0}
ValuesFit (p ∷ ps) = (p.value < 256) × ValuesFit ps

lowered-values : (p : Point) (ps : List Point) → ValuesFit (lowered p ps)
lowered-values p [] = tt
lowered-values p (q ∷ qs) = (gf-fits (bit_xor q.value p.value) (inverse_of (bit_xor q.at p.at)), lowered-values p qs)

multiplied : (d e : ℕ) → d < 256 → d ≢ 0 → e < 256 → gf_product d (gf_product e (inverse_of d)) ≡ e
multiplied d e fits some small = gf_swap d e (inverse_of d) ∙ ap (gf_product e) (inverse-works d fits some) ∙ gf-one e small

back : (a b : ℕ) → bit_xor a (bit_xor b a) ≡ b
back a b = ap (bit_xor a) (xor_comm b a) ∙ sym (xor_assoc a a b) ∙ ap (λ (x : ℕ). bit_xor x b) (xor_self a)

-- a polynomial that passes the lowered points is lifted to one that passes the points
passes-lifted : (cs : List ℕ) (p : Point) (ps : List Point) → p.at < 256 → p.value < 256 → AtFit ps → ValuesFit ps → AreAway p.at ps → Passes cs (lowered p ps) → Passes (lifted p.at p.value cs) ps
passes-lifted cs p [] at_fits fits at_fit values away pass = tt
passes-lifted cs p (q ∷ qs) at_fits fits at_fit values away pass =
    let d = bit_xor q.at p.at in (
      eval-lifted p.at p.value cs q.at
          ∙ ap (λ (y : ℕ). bit_xor p.value (gf_product d y)) pass.0
          ∙ ap (bit_xor p.value) (multiplied d (bit_xor q.value p.value) (xor-fits q.at p.at at_fit.0 at_fits) (apart q.at p.at away.0) (xor-fits q.value p.value values.0 fits))
          ∙ back p.value q.value,
      passes-lifted cs p qs at_fits fits at_fit.1 values.1 away.1 pass.1,
    )

-- it passes the points
pub passes-through : (n : ℕ) (ps : List Point) → length ps ≡ n → AtFit ps → ValuesFit ps → AreApart ps → Passes (through_points n ps) ps
unfolding through_points
passes-through n [] count at_fit values away = tt
passes-through zero (p ∷ ps) count at_fit values away = absurd (omega arith)
passes-through (suc n) (p ∷ ps) count at_fit values away =
    let cs = through_points n (lowered p ps) in (
      eval-lifted p.at p.value cs p.at
          ∙ ap (λ (d : ℕ). bit_xor p.value (gf_product d (eval cs p.at))) (xor_self p.at)
          ∙ ap (bit_xor p.value) (gf_comm 0 (eval cs p.at) ∙ gf-zero (eval cs p.at))
          ∙ xor_zero_r p.value,
      passes-lifted cs p ps at_fit.0 values.0 at_fit.1 values.1 away.0
          (passes-through n (lowered p ps) (length-lowered p ps ∙ omega arith) (lowered-fit p ps at_fit.1) (lowered-values p ps) (lowered-apart p ps away.1)),
    )

through-fits : (n : ℕ) (ps : List Point) → ValuesFit ps → AreBytes (through_points n ps)
unfolding through_points
through-fits zero ps values = tt
through-fits (suc n) [] values = tt
through-fits (suc n) (p ∷ ps) values = lifted-fits p.at p.value (through_points n (lowered p ps)) values.0 (through-fits n (lowered p ps) (lowered-values p ps))

values_fit : (ps : List Point) → HaveBytes ps → ValuesFit ps
values_fit [] h = tt
values_fit (p ∷ ps) h = (h.1, values_fit ps h.2)

-- ---- the laws

-- any polynomial of a low degree through the points has the value that they give
pub points-give : (ps : List Point) (z : ℕ) (cs : List ℕ) → AtFit ps → AreApart ps → HasDegreeBelow (length ps) cs → Passes cs ps → eval cs z ≡ interpolated (length ps) z ps
points-give ps z cs fit away low pass = sym (interpolates (length ps) z cs ps refl low.0 low.1 fit away pass)

-- and there is one
pub have-polynomial : (ps : List Point) → HaveBytes ps → AreApart ps → HavePolynomial ps
have-polynomial ps bytes away = (
  through_points (length ps) ps,
  (length-through (length ps) ps, through-fits (length ps) ps (values_fit ps bytes)),
  passes-through (length ps) ps refl (at_fit ps bytes) (values_fit ps bytes) away,
)

-- what points give is what taking one point away at a time computes: for a caller whose rule is a function
pub given-is : (ps : List Point) (byte : ℕ) → AtFit ps → AreApart ps → HavePolynomial ps → PointsGive ps byte → byte ≡ interpolated (length ps) 0 ps
given-is ps byte fit away found given = sym (given found.0 found.1 found.2) ∙ points-give ps 0 found.0 fit away found.1 found.2
