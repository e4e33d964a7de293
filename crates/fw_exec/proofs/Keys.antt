-- The keys of clients in order, one after another.
use Rattle.std.proofs.Common.{◌≡◌, ℕ, ◌+◌, ◌<◌, nat_lt, List, [], ◌∷◌, ◌++◌, length, replicate, Some, refl, sym, ap, ◌∙◌, subst, arith, inl, inr}
use Rattle.std.proofs.lemmas.Bool.{cases_Bool, ltb-true, ltb-false}
use Rattle.std.proofs.lemmas.List.{length-append, get_or_append_left}
use Rattle.std.proofs.Math.Seq.{get_or-append_seam}
use Rattle.fw_seal.specs.declared.types.BodyKey.{BodyKey}
use Rattle.fw_hand.specs.declared.hand.HeldKey.{HeldKey}
use Rattle.fw_hand.specs.Hands.{key_in}
use Rattle.fw_ref.specs.Bodies.{key_of}
use Rattle.fw_exec.specs.Executors.{AreKeysOf}

abbrev no_key : BodyKey
no_key = record { stream_key = replicate 32 0; mac_key = replicate 32 0 }

-- none of none
pub no_keys : (held : List HeldKey) → AreKeysOf held 0 []
no_keys held = record { long = refl; each = λ c below. absurd (omega arith) }

index_front : (keys : List BodyKey) (k : BodyKey) (c : ℕ) → c < length keys → key_of (keys ++ k ∷ []) c ≡ key_of keys c
index_front keys k c below = get_or_append_left keys (k ∷ []) no_key c below

index_back : (keys : List BodyKey) (k : BodyKey) → key_of (keys ++ k ∷ []) (length keys) ≡ k
index_back keys k = get_or-append_seam keys k [] no_key

-- the key of the next client behind them
pub one_key_more : (held : List HeldKey) (count : ℕ) (keys more : List BodyKey) (k : BodyKey) → AreKeysOf held count keys → key_in held count ≡ Some k → more ≡ keys ++ k ∷ [] → AreKeysOf held (count + 1) more
one_key_more held count keys more k are found made = subst (AreKeysOf held (count + 1)) (sym made) (record {
  long = length-append keys (k ∷ []) ∙ ap (λ n. n + 1) are.long;
  each = λ c below. elim (cases_Bool (nat_lt c count)) [
    | inl small ↦
        let inside : c < count = ltb-true c count small in
        are.each c inside ∙ ap Some (sym (index_front keys k c (omega (arith, are.long))))
    | inr great ↦
        let same : c ≡ count = (let past = ltb-false c count great in omega arith) in
        let last : length keys ≡ c = omega (arith, are.long, same) in
        ap (key_in held) same ∙ found ∙ ap Some (sym (index_back keys k) ∙ ap (key_of (keys ++ k ∷ [])) last)
  ];
})
