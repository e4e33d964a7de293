-- The texts that are hashed, as data, how each is spelled, and its digest. A text begins with a tag of its kind, so that texts
-- of two kinds never are the same bytes.
use Rattle.std.specs.Prelude.{ℕ, zero, suc, List, [], ◌∷◌, ◌++◌, length, flat_map}
use Rattle.sha2.specs.Sha256.{sha256}
use Rattle.fw_list.specs.Numbers.{u32}
use Rattle.fw_base.specs.Places.{slot_name}
use Rattle.fw_base.specs.declared.slot.Place.{Place}

-- what a view change says of a proof: at this number, votes of this view for the entry of this digest
pub record Listed : Type 0 where
  pub view : ℕ
  pub number : ℕ
  pub digest : List ℕ

-- what a new view says of a view change: its signer, and the digest of its text
pub record Heading : Type 0 where
  pub agree : ℕ
  pub digest : List ℕ

pub data Text : Type 0 where
  Value : (place : Place) (value : List ℕ) → Text  -- a secret or a share, with its place
  Asked : (client stamp : ℕ) (body : List ℕ) → Text  -- a request
  Nothing : Text  -- the null entry
  Voted : (phase view number : ℕ) (digest : List ℕ) → Text  -- a prepare vote (phase 0) or a commit vote
  Changed : (view agree : ℕ) (proofs : List Listed) → Text  -- a view change
  Begun : (view : ℕ) (changes : List Heading) → Text  -- a new view
  Answered : (number client stamp : ℕ) (body : List ℕ) → Text  -- the reply to a number

abbrev pub vote_tag : ℕ → ℕ
vote_tag zero = 18
vote_tag (suc k) = 19

abbrev pub listed_bytes : Listed → List ℕ
listed_bytes l = u32 l.view ++ u32 l.number ++ l.digest

abbrev pub heading_bytes : Heading → List ℕ
heading_bytes h = u32 h.agree ++ h.digest

-- the place as text: its slot's kind and three numbers, the bit, the side and the point
abbrev pub place_bytes : Place → List ℕ
place_bytes place =
    let name = slot_name place.slot in
    name.kind ∷ flat_map u32 (name.a ∷ name.b ∷ name.c ∷ place.bit ∷ place.side ∷ place.point ∷ [])

-- the bytes of a text, its tag first
unfoldable pub text_bytes : Text → List ℕ
text_bytes (Value place value) = 1 ∷ (place_bytes place ++ value)
text_bytes (Asked client stamp body) = 16 ∷ (u32 client ++ u32 stamp ++ body)
text_bytes Nothing = 17 ∷ []
text_bytes (Voted phase view number digest) = vote_tag phase ∷ (u32 view ++ u32 number ++ digest)
text_bytes (Changed view agree proofs) = 20 ∷ (u32 view ++ u32 agree ++ u32 (length proofs) ++ flat_map listed_bytes proofs)
text_bytes (Begun view changes) = 21 ∷ (u32 view ++ u32 (length changes) ++ flat_map heading_bytes changes)
text_bytes (Answered number client stamp body) = 22 ∷ (u32 number ++ u32 client ++ u32 stamp ++ body)

-- a digest of each text
abbrev pub Hash : Type 0
Hash = Text → List ℕ

-- SHA-256 of its bytes (FIPS 180-4)
unfoldable pub hash : Text → List ℕ
hash text = sha256 (text_bytes text)
