-- The certificates of a list: for each number the one reply frame that a wholly correct row lets down. Its answer is the
-- reference's, and its values are the dealt secrets on the sides of the answer's digest.
use Rattle.std.specs.Prelude.{ℕ, ◌+◌, List, [], ◌∷◌, map, flat_map}
use Rattle.fw_list.specs.Lists.{numbers_from}
use Rattle.fw_base.specs.declared.slot.Slot.TheVariants as slots
use Rattle.fw_text.specs.Texts.{hash, Answered}
use Rattle.fw_text.specs.Bits.{place_on}
use Rattle.fw_seal.specs.declared.types.BodyKey.{BodyKey}
use Rattle.fw_op.specs.declared.start.Start.{Start}
use Rattle.fw_secret.specs.Dealt.{Origin, dealt, body_key}
use Rattle.fw_frame.specs.Frames.{PlainEntry, Reply}
use Rattle.fw_frame.specs.Spelling.{frame_bytes}
use Rattle.fw_ref.specs.declared.replica.Answer.{Answer}
use Rattle.fw_ref.specs.Reference.{at_start}
use Rattle.fw_ref.specs.Bodies.{PlainReplica, next_answer, after_entry}

-- the secret of a number's reply on the side of a bit of a digest
abbrev pub secret_on : Origin → ℕ → List ℕ → ℕ → List ℕ
secret_on o number digest b = dealt o (place_on (slots.Reply number) 0 digest b)

-- those of all bits in turn
unfoldable pub secrets_for : Origin → ℕ → List ℕ → List ℕ
secrets_for o number digest = flat_map (secret_on o number digest) (numbers_from 0 256)

-- the bytes of the reply frame of an answer
abbrev pub certificate : Origin → ℕ → Answer → List ℕ
certificate o number a =
    frame_bytes (Reply number a.client a.stamp a.body.bytes (secrets_for o number (hash (Answered number a.client a.stamp a.body.bytes))))

-- the keys of all clients' bodies
abbrev pub keys_of : Origin → List BodyKey
keys_of o = map (body_key o) (numbers_from 0 o.params.clients)

-- those of a list of entries, answered by a replica one after another
unfoldable pub certificates : Origin → PlainReplica → List PlainEntry → List (List ℕ)
certificates o r [] = []
certificates o r (e ∷ entries) =
    certificate o (r.done + 1) (next_answer (keys_of o) r e) ∷ certificates o (after_entry (keys_of o) r e) entries

-- those of the whole list, from the records to start with
abbrev pub permitted : Origin → List Start → List PlainEntry → List (List ℕ)
permitted o starts entries = certificates o (record { done = 0; reference = at_start starts }) entries
