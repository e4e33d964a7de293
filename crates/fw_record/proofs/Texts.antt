-- The words of a record, and its text.
use Rattle.std.proofs.Common.{◌≡◌, ℕ, ◌<◌, ◌^◌, true, ◌&&◌, nat_lt, List, [], ◌∷◌, map, refl, sym, ap, ◌∙◌}
use Rattle.std.specs.List.{list_all}
use Rattle.std.proofs.lemmas.Bool.{and_parts, and_from, lt-ltb}
use Rattle.fw_op.specs.declared.start.Start.{Start}
use Rattle.fw_op.specs.Keys.{is_key, is_value}
use Rattle.fw_op.specs.Words.{client_word, sentence, words_of}
use Rattle.fw_op.proofs.Sentences.{is_whole, sentence_words, words_sentence, whole_client, whole_key, whole_value}
use Rattle.fw_list.specs.Numbers.{ascending}
use Rattle.fw_record.specs.Records.{start_words, start_text, start_fits}
use Rattle.fw_record.specs.Parts.{rising, AreReaders, IsStart}
use Rattle.fw_record.proofs.Rising.{rising_from, rising_to}

-- what makes a record fit
pub record Fitting (clients : ℕ) (s : Start) : Type 0 where
  pub owner : nat_lt s.owner clients ≡ true
  pub key : is_key s.key ≡ true
  pub value : is_value s.value ≡ true
  pub readers : list_all (λ c. nat_lt c clients) s.readers ≡ true
  pub up : ascending s.readers ≡ true

pub fitting_of : (clients : ℕ) (s : Start) → start_fits clients s ≡ true → Fitting clients s
fitting_of clients s h =
    let a = and_parts (nat_lt s.owner clients && is_key s.key && is_value s.value && list_all (λ c. nat_lt c clients) s.readers) (ascending s.readers) h in
    let b = and_parts (nat_lt s.owner clients && is_key s.key && is_value s.value) (list_all (λ c. nat_lt c clients) s.readers) a.0 in
    let c = and_parts (nat_lt s.owner clients && is_key s.key) (is_value s.value) b.0 in
    let d = and_parts (nat_lt s.owner clients) (is_key s.key) c.0 in
    record { owner = d.0; key = d.1; value = c.1; readers = b.1; up = a.1 }

pub fits_of : (clients : ℕ) (s : Start) → Fitting clients s → start_fits clients s ≡ true
fits_of clients s f = and_from _ _ (and_from _ _ (and_from _ _ (and_from _ _ f.owner f.key) f.value) f.readers) f.up

whole_readers : (clients : ℕ) (cs : List ℕ) → clients < 2 ^ 32 → list_all (λ c. nat_lt c clients) cs ≡ true → list_all is_whole (map client_word cs) ≡ true
whole_readers clients [] small h = refl
whole_readers clients (c ∷ cs) small h =
    let both = and_parts (nat_lt c clients) (list_all (λ c. nat_lt c clients) cs) h in
    and_from (is_whole (client_word c)) (list_all is_whole (map client_word cs)) (whole_client c clients small both.0) (whole_readers clients cs small both.1)

-- the words of a record's text are the record's words
pub words_of_start : (clients : ℕ) (s : Start) → clients < 2 ^ 32 → start_fits clients s ≡ true → words_of (start_text s) ≡ start_words s
words_of_start clients s small h =
    let f = fitting_of clients s h in
    words_sentence (client_word s.owner) (s.key ∷ s.value ∷ map client_word s.readers) (whole_client s.owner clients small f.owner)
    (and_from (is_whole s.key) (list_all is_whole (s.value ∷ map client_word s.readers)) (whole_key s.key f.key)
    (and_from (is_whole s.value) (list_all is_whole (map client_word s.readers)) (whole_value s.value f.value) (whole_readers clients s.readers small f.readers)))

-- ---- a head and readers

-- what stands before the readers
pub record HasHead (clients owner : ℕ) (key value : List ℕ) (words rest : List (List ℕ)) : Type 0 where
  pub is : words ≡ client_word owner ∷ key ∷ value ∷ rest
  pub below : owner < clients
  pub a_key : is_key key ≡ true
  pub a_value : is_value value ≡ true

abbrev pub start_at : ℕ → List ℕ → List ℕ → List ℕ → Start
start_at owner key value readers = record { owner = owner; key = key; value = value; readers = readers }

-- with readers, it is a record
pub is_start : (clients owner : ℕ) (key value : List ℕ) (words rest : List (List ℕ)) → HasHead clients owner key value words rest → AreReaders clients 0 rest → IsStart clients words
is_start clients owner key value words rest h r =
    let both = rising_to clients 0 r.readers r.fitting in
    record {
      start = record { owner = owner; key = key; value = value; readers = r.readers };
      spelled = h.is ∙ ap (λ (ws : List (List ℕ)). client_word owner ∷ key ∷ value ∷ ws) r.spelled;
      fitting = fits_of clients (start_at owner key value r.readers) (record { owner = lt-ltb owner clients h.below; key = h.a_key; value = h.a_value; readers = both.0; up = both.1 });
    }

-- with readers that were read, it is this record
pub read_whole : (clients owner : ℕ) (key value : List ℕ) (words rest : List (List ℕ)) (cs : List ℕ) → HasHead clients owner key value words rest → rest ≡ map client_word cs → rising clients 0 cs ≡ true
    → (words ≡ start_words (start_at owner key value cs)) × (start_fits clients (start_at owner key value cs) ≡ true)
read_whole clients owner key value words rest cs h spelled up =
    let both = rising_to clients 0 cs up in (
      h.is ∙ ap (λ (ws : List (List ℕ)). client_word owner ∷ key ∷ value ∷ ws) spelled,
      fits_of clients (start_at owner key value cs) (record { owner = lt-ltb owner clients h.below; key = h.a_key; value = h.a_value; readers = both.0; up = both.1 }),
    )

-- a record's words behind a head are readers
pub has_readers : (clients owner : ℕ) (key value : List ℕ) (words rest : List (List ℕ)) (s : Start) → HasHead clients owner key value words rest → start_fits clients s ≡ true → words ≡ start_words s → AreReaders clients 0 rest
has_readers clients owner key value words rest s h fits e =
    let f = fitting_of clients s fits in
    let same : client_word owner ∷ key ∷ value ∷ rest ≡ client_word s.owner ∷ s.key ∷ s.value ∷ map client_word s.readers = sym h.is ∙ e in
    record { readers = s.readers; spelled = cc; fitting = rising_from clients s.readers f.readers f.up }

-- what is a record by its words is one by its text
pub text_of : (clients : ℕ) (text : List ℕ) → IsStart clients (words_of text) → (s : Start) × (text ≡ start_text s) × (start_fits clients s ≡ true)
text_of clients text is = (is.start, sym (sentence_words text) ∙ ap sentence is.spelled, is.fitting)

pub is_of_text : (clients : ℕ) (text : List ℕ) (s : Start) → clients < 2 ^ 32 → start_fits clients s ≡ true → text ≡ start_text s → IsStart clients (words_of text)
is_of_text clients text s small fits e = record { start = s; spelled = ap words_of e ∙ words_of_start clients s small fits; fitting = fits }
