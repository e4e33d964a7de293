-- The parts of a record, and what readers of a record find.
use Rattle.std.specs.Prelude.{◌≡◌, ℕ, ◌+◌, Bool, true, ◌&&◌, nat_lt, nat_le, List, [], ◌∷◌, length, map, IsTrue}
use Rattle.fw_op.specs.declared.start.Start.{Start}
use Rattle.fw_op.specs.Words.{client_word}
use Rattle.fw_record.specs.declared.parts.StartParts.{StartParts}
use Rattle.fw_record.specs.Records.{start_words, start_fits}

-- the record whose parts still lie where they were read
abbrev pub plain_start : StartParts → Start
plain_start p = record { owner = p.owner; key = p.key.now; value = p.value.now; readers = p.readers.now }

abbrev pub owner_bytes : ℕ → List ℕ
owner_bytes c = c ∷ []

-- the readers after their count
abbrev pub readers_bytes : List ℕ → List ℕ
readers_bytes cs = length cs ∷ cs

-- clients below so many: each is at least one above the one before it, and the first at least `least`
abbrev pub rising : ℕ → ℕ → List ℕ → Bool
rising clients least [] = true
rising clients least (c ∷ cs) = nat_le least c && (nat_lt c clients && rising clients (c + 1) cs)

-- the words are such clients
pub record AreReaders (clients least : ℕ) (words : List (List ℕ)) : Type 0 where
  pub readers : List ℕ
  pub spelled : words ≡ map client_word readers
  pub fitting : IsTrue (rising clients least readers)

-- the words are a record's
pub record IsStart (clients : ℕ) (words : List (List ℕ)) : Type 0 where
  pub start : Start
  pub spelled : words ≡ start_words start
  pub fitting : IsTrue (start_fits clients start)
