-- Sealed bodies: the block of a text under a stream of ChaCha20, and the block's authentication code.
use Rattle.std.specs.Prelude.{ℕ, zero, suc, ◌+◌, ◌-◌, ◌*◌, ◌≡◌, ◌≢◌, ◌≤◌, ◌<◌, ◌⊎◌, Bool, ◌&&◌, nat_le, List, [], ◌∷◌, ◌++◌, map, length, take, drop, replicate, bit_xor, bytes_eq, Any, Option, Some, None, if◌then◌else◌}
use Rattle.std.specs.List.{zip}
use Rattle.std.specs.Int.{w16, w32, to_be_bytes, from_be_bytes, to_le_bytes}
use Rattle.rand_chacha.specs.ChaCha.{word_at, key_of}
use Rattle.fw_list.specs.declared.limits.TheConstants.{LONGEST_TEXT}
use Rattle.fw_digest.specs.Hmac.{hmac_sha256}
use Rattle.fw_seal.specs.declared.types.BodyKey.{BodyKey}
use Rattle.fw_seal.specs.declared.types.Direction.{Direction}
use Rattle.fw_seal.specs.declared.types.Direction.TheVariants.{Request, Reply}

-- the stream of a request with this stamp, and of the reply with this number of the agreed list
abbrev pub stream_of : Direction → ℕ → ℕ
stream_of Request stamp = 2 * stamp
stream_of Reply number = 2 * number + 1

-- the first n words of a stream, each low byte first
unfoldable pub stream_bytes : List ℕ → ℕ → ℕ → List ℕ
stream_bytes key stream zero = []
stream_bytes key stream (suc n) = stream_bytes key stream n ++ to_le_bytes w32 (word_at 10 (key_of key) stream n)

-- two lists, byte by byte
abbrev pub xor_bytes : List ℕ → List ℕ → List ℕ
xor_bytes xs ys = map (λ (p : ℕ × ℕ). bit_xor p.0 p.1) (zip xs ys)

-- a block under the stream of this stamp or number; what is under it twice is the block again
unfoldable pub masked : BodyKey → Direction → ℕ → List ℕ → List ℕ
masked key way number block = xor_bytes block (stream_bytes key.stream_key (stream_of way number) 128)

-- the block of a text: the text's length, high byte first, the text, and zeros up to 512 bytes
unfoldable pub block_of : List ℕ → List ℕ
block_of text = to_be_bytes w16 (length text) ++ text ++ replicate (LONGEST_TEXT - length text) 0

-- the byte of a direction
abbrev pub way_byte : Direction → ℕ
way_byte Request = 0
way_byte Reply = 1

-- the tag of a block under its stream: the authentication code of direction, client, stamp or number, and that block
unfoldable pub tag_of : BodyKey → Direction → ℕ → ℕ → List ℕ → List ℕ
tag_of key way client number cipher =
    hmac_sha256 key.mac_key (way_byte way ∷ to_be_bytes w32 client ++ to_be_bytes w32 number ++ cipher)

-- the body of a text: its block under the stream, and the tag of that
unfoldable pub sealed : BodyKey → Direction → ℕ → ℕ → List ℕ → List ℕ
sealed key way client number text =
    let cipher = masked key way number (block_of text) in
    cipher ++ tag_of key way client number cipher

-- the body opens to this text: it is the text's
pub record Opens (key : BodyKey) (way : Direction) (client number : ℕ) (body text : List ℕ) : Type 0 where
  pub short : length text ≤ LONGEST_TEXT
  pub same : body ≡ sealed key way client number text

-- the length of the text that a block names
abbrev pub length_in : List ℕ → ℕ
length_in block = from_be_bytes w16 (take 2 block)

-- the text that a block names: as many of the bytes behind its length as that says
abbrev pub text_in : List ℕ → List ℕ
text_in block = take (length_in block) (drop 2 block)

-- whether the body is that of this text, and the text short enough
abbrev pub is_body_of : BodyKey → Direction → ℕ → ℕ → List ℕ → List ℕ → Bool
is_body_of key way client number body text = nat_le (length text) LONGEST_TEXT && bytes_eq body (sealed key way client number text)

-- the text that the body opens to, or none: the one named under its stream, where the body is that of this text
unfoldable pub opened : BodyKey → Direction → ℕ → ℕ → List ℕ → Option (List ℕ)
opened key way client number body =
    let text = text_in (masked key way number (take 512 body)) in
    if is_body_of key way client number body text then Some text else None

-- the block is of no text: its length is too great, or some byte after the text isn't zero
abbrev pub IsSpoiled : List ℕ → Type 0
IsSpoiled block = (LONGEST_TEXT < length_in block) ⊎ Any (λ b. b ≢ 0) (drop (2 + length_in block) block)

-- the body is refused: its tag is another, or its block is of no text
abbrev pub IsRefused : BodyKey → Direction → ℕ → ℕ → List ℕ → Type 0
IsRefused key way client number body =
    (drop 512 body ≢ tag_of key way client number (take 512 body)) ⊎ IsSpoiled (masked key way number (take 512 body))
