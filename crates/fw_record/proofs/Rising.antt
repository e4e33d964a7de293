-- Clients that ascend.
use Rattle.std.proofs.Common.{◌≡◌, ◌≢◌, ℕ, ◌+◌, ◌<◌, ◌≤◌, ◌^◌, true, ◌&&◌, nat_lt, nat_le, List, [], ◌∷◌, ◌++◌, length, map, refl, sym, ap, subst, ◌∙◌, arith, append_assoc}
use Rattle.std.specs.List.{list_all}
use Rattle.std.proofs.lemmas.Bool.{and_parts, and_from, ltb-true, leb-true, lt-ltb, le-leb}
use Rattle.std.proofs.lemmas.List.{append-nil, map_push}
use Rattle.fw_op.specs.Words.{client_word}
use Rattle.fw_op.proofs.OneOp.{named, named_client}
use Rattle.fw_list.specs.Numbers.{ascending}
use Rattle.fw_record.specs.Parts.{rising, AreReaders}

rising_after : (clients c : ℕ) (cs : List ℕ) → list_all (λ c. nat_lt c clients) cs ≡ true → ascending (c ∷ cs) ≡ true → rising clients (c + 1) cs ≡ true
rising_after clients c [] below up = refl
rising_after clients c (d ∷ cs) below up =
    let b = and_parts (nat_lt d clients) (list_all (λ c. nat_lt c clients) cs) below in
    let u = and_parts (nat_lt c d) (ascending (d ∷ cs)) up in
    let above : c + 1 ≤ d = omega (arith, ltb-true c d u.0) in
    and_from _ _ (le-leb (c + 1) d above) (and_from _ _ b.0 (rising_after clients d cs b.1 u.1))

pub rising_from : (clients : ℕ) (cs : List ℕ) → list_all (λ c. nat_lt c clients) cs ≡ true → ascending cs ≡ true → rising clients 0 cs ≡ true
rising_from clients [] below up = refl
rising_from clients (c ∷ cs) below up =
    let b = and_parts (nat_lt c clients) (list_all (λ c. nat_lt c clients) cs) below in
    and_from _ _ (le-leb 0 c (omega arith)) (and_from _ _ b.0 (rising_after clients c cs b.1 up))

ascends : (clients c : ℕ) (cs : List ℕ) → rising clients (c + 1) cs ≡ true → ascending cs ≡ true → ascending (c ∷ cs) ≡ true
ascends clients c [] h up = refl
ascends clients c (d ∷ cs) h up =
    let a = and_parts (nat_le (c + 1) d) (nat_lt d clients && rising clients (d + 1) cs) h in
    and_from _ _ (lt-ltb c d (omega (arith, leb-true (c + 1) d a.0))) up

pub rising_to : (clients least : ℕ) (cs : List ℕ) → rising clients least cs ≡ true → (list_all (λ c. nat_lt c clients) cs ≡ true) × (ascending cs ≡ true)
rising_to clients least [] h = (refl, refl)
rising_to clients least (c ∷ cs) h =
    let a = and_parts (nat_le least c) (nat_lt c clients && rising clients (c + 1) cs) h in
    let b = and_parts (nat_lt c clients) (rising clients (c + 1) cs) a.1 in
    let rest = rising_to clients (c + 1) cs b.1 in
    (and_from _ _ b.0 rest.0, ascends clients c cs b.1 rest.1)

-- there are no more of them than there are clients from the least on
pub rising_few : (clients least : ℕ) (cs : List ℕ) → least ≤ clients → rising clients least cs ≡ true → least + length cs ≤ clients
rising_few clients least [] few h = omega arith
rising_few clients least (c ∷ cs) few h =
    let a = and_parts (nat_le least c) (nat_lt c clients && rising clients (c + 1) cs) h in
    let b = and_parts (nat_lt c clients) (rising clients (c + 1) cs) a.1 in
    let low = leb-true least c a.0 in
    let high = ltb-true c clients b.0 in
    omega (arith, rising_few clients (c + 1) cs (omega arith) b.1, low)

pub few_readers : (clients : ℕ) (cs : List ℕ) → list_all (λ c. nat_lt c clients) cs ≡ true → ascending cs ≡ true → length cs ≤ clients
few_readers clients cs below up = omega (arith, rising_few clients 0 cs (omega arith) (rising_from clients cs below up))

-- ---- in words

-- a client's word is one client's
pub same_client : (a b clients : ℕ) → clients < 2 ^ 32 → a < clients → b < clients → client_word a ≡ client_word b → a ≡ b
same_client a b clients small below_a below_b e = sym (named_client a clients small (lt-ltb a clients below_a)) ∙ ap named e ∙ named_client b clients small (lt-ltb b clients below_b)

-- one reader more
pub one_more : (clients least c : ℕ) (word : List ℕ) (words : List (List ℕ)) → word ≡ client_word c → least ≤ c → c < clients → AreReaders clients (c + 1) words → AreReaders clients least (word ∷ words)
one_more clients least c word words is low high r = record {
  readers = c ∷ r.readers;
  spelled = ap (λ (w : List ℕ). w ∷ words) is ∙ ap (λ (ws : List (List ℕ)). client_word c ∷ ws) r.spelled;
  fitting = and_from _ _ (le-leb least c low) (and_from _ _ (lt-ltb c clients high) r.fitting);
}

one_less_of : (clients least c : ℕ) (word : List ℕ) (words : List (List ℕ)) (cs : List ℕ) → clients < 2 ^ 32 → word ≡ client_word c → c < clients → word ∷ words ≡ map client_word cs → rising clients least cs ≡ true → AreReaders clients (c + 1) words
one_less_of clients least c word words [] small is high e h = absurd (let no : ⊥ = cc in no)
one_less_of clients least c word words (d ∷ cs) small is high e h =
    let a = and_parts (nat_le least d) (nat_lt d clients && rising clients (d + 1) cs) h in
    let b = and_parts (nat_lt d clients) (rising clients (d + 1) cs) a.1 in
    let front : client_word c ≡ client_word d = cc in
    let same : d ≡ c = sym (same_client c d clients small high (ltb-true d clients b.0) front) in
    record { readers = cs; spelled = cc; fitting = subst (λ (n : ℕ). rising clients (n + 1) cs ≡ true) same b.1 }

pub one_less : (clients least c : ℕ) (word : List ℕ) (words : List (List ℕ)) → clients < 2 ^ 32 → word ≡ client_word c → c < clients → AreReaders clients least (word ∷ words) → AreReaders clients (c + 1) words
one_less clients least c word words small is high r = one_less_of clients least c word words r.readers small is high r.spelled r.fitting

no_reader_of : (clients least : ℕ) (word : List ℕ) (words : List (List ℕ)) (cs : List ℕ) → ((c : ℕ) → least ≤ c → c < clients → word ≢ client_word c) → word ∷ words ≡ map client_word cs → rising clients least cs ≡ true → ⊥
no_reader_of clients least word words [] none e h = cc
no_reader_of clients least word words (d ∷ cs) none e h =
    let a = and_parts (nat_le least d) (nat_lt d clients && rising clients (d + 1) cs) h in
    let b = and_parts (nat_lt d clients) (rising clients (d + 1) cs) a.1 in
    none d (leb-true least d a.0) (ltb-true d clients b.0) (let same : word ≡ client_word d = cc in same)

-- a word that is no reader's
pub no_reader : (clients least : ℕ) (word : List ℕ) (words : List (List ℕ)) → ((c : ℕ) → least ≤ c → c < clients → word ≢ client_word c) → AreReaders clients least (word ∷ words) → ⊥
no_reader clients least word words none r = no_reader_of clients least word words r.readers none r.spelled r.fitting

-- readers that were read, and one more
pub grown : (whole : List (List ℕ)) (cs : List ℕ) (before after : List (List ℕ)) (word : List ℕ) (c : ℕ) → whole ≡ map client_word cs ++ before → before ≡ word ∷ after → word ≡ client_word c → whole ≡ map client_word (cs ++ c ∷ []) ++ after
grown whole cs before after word c read next is =
    read ∙ ap (λ (ws : List (List ℕ)). map client_word cs ++ ws) (next ∙ ap (λ (w : List ℕ). w ∷ after) is)
    ∙ sym (ap (λ (ws : List (List ℕ)). ws ++ after) (map_push client_word cs c) ∙ append_assoc (map client_word cs) (client_word c ∷ []) after)

pub goes_on : (clients least c : ℕ) (cs : List ℕ) → least ≤ c → c < clients → ((more : List ℕ) → rising clients least more ≡ true → rising clients 0 (cs ++ more) ≡ true)
    → (more : List ℕ) → rising clients (c + 1) more ≡ true → rising clients 0 ((cs ++ c ∷ []) ++ more) ≡ true
goes_on clients least c cs low high so_far more h =
    ap (rising clients 0) (append_assoc cs (c ∷ []) more) ∙ so_far (c ∷ more) (and_from _ _ (le-leb least c low) (and_from _ _ (lt-ltb c clients high) h))

pub all_fit : (clients least : ℕ) (whole : List (List ℕ)) (cs : List ℕ) (left : List (List ℕ)) → whole ≡ map client_word cs ++ left → left ≡ [] → ((more : List ℕ) → rising clients least more ≡ true → rising clients 0 (cs ++ more) ≡ true)
    → (whole ≡ map client_word cs) × (rising clients 0 cs ≡ true)
all_fit clients least whole cs left read none so_far = (
  read ∙ ap (λ (ws : List (List ℕ)). map client_word cs ++ ws) none ∙ append-nil (map client_word cs),
  sym (ap (rising clients 0) (append-nil cs)) ∙ so_far [] refl,
)
