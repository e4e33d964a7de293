-- HMAC (RFC 2104) over SHA-256, for keys of at most one block of 64 bytes.
use Rattle.std.specs.Prelude.{ℕ, ◌-◌, List, ◌++◌, length, map, replicate, bit_xor}
use Rattle.sha2.specs.Sha256.{sha256}

-- the key, with zeros up to a block
abbrev pub key_block : List ℕ → List ℕ
key_block key = key ++ replicate (64 - length key) 0

-- each byte with this mask
abbrev pub masked : ℕ → List ℕ → List ℕ
masked mask bytes = map (λ b. bit_xor b mask) bytes

-- the authentication code of a text: the digest of the key's block under the outer mask and of the digest of the key's
-- block under the inner mask and of the text
abbrev pub hmac_sha256 : List ℕ → List ℕ → List ℕ
hmac_sha256 key text =
    sha256 (masked 0x5c (key_block key) ++ sha256 (masked 0x36 (key_block key) ++ text))
