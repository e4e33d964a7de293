-- Bodies, sealed and opened.
use Rattle.std.proofs.Common.{◌≡◌, ℕ, ◌-◌, ◌≤◌, List, [], ◌++◌, length, take, drop, refl, sym, ap, ◌∙◌, arith, subst, take-append-drop}
use Rattle.std.specs.Prelude.{replicate}
use Rattle.std.proofs.lemmas.List.{take_at, drop_at, drop_all, take_all, append-nil, length-drop}
use borrow.Rule.Slice.PartMut.{put_mid, mid_of}
use Rattle.fw_seal.specs.declared.types.BodyKey.{BodyKey}
use Rattle.fw_seal.specs.declared.types.Direction.{Direction}
use Rattle.fw_seal.specs.Seal.{stream_of, stream_bytes, masked, block_of, tag_of, sealed, Opens, length_in, IsSpoiled}
use Rattle.fw_seal.proofs.Bytes.{length-xor_bytes, xor_bytes-twice}
use Rattle.fw_seal.proofs.Words.{length-stream_bytes}
use Rattle.fw_seal.proofs.Blocks.{text_in_block, length-block_of, length_in-block_of, drop-block_of, block_of_unspoiled}

pub length-masked : (key : BodyKey) (way : Direction) (number : ℕ) (block : List ℕ) → length block ≡ 512 → length (masked key way number block) ≡ 512
unfolding masked
length-masked key way number block whole =
    length-xor_bytes block (stream_bytes key.stream_key (stream_of way number) 128) (whole ∙ sym (length-stream_bytes key.stream_key (stream_of way number) 128)) ∙ whole

-- what is under its stream is the block again
pub masked-twice : (key : BodyKey) (way : Direction) (number : ℕ) (block : List ℕ) → length block ≡ 512 → masked key way number (masked key way number block) ≡ block
unfolding masked
masked-twice key way number block whole =
    xor_bytes-twice block (stream_bytes key.stream_key (stream_of way number) 128) (whole ∙ sym (length-stream_bytes key.stream_key (stream_of way number) 128))

-- the two parts of a sealed body
pub take-sealed : (key : BodyKey) (way : Direction) (client number : ℕ) (text : List ℕ) → length text ≤ 510 → take 512 (sealed key way client number text) ≡ masked key way number (block_of text)
unfolding sealed
take-sealed key way client number text short =
    let cipher : List ℕ = masked key way number (block_of text) in
    take_at cipher (tag_of key way client number cipher) 512 (length-masked key way number (block_of text) (length-block_of text short))

pub drop-sealed : (key : BodyKey) (way : Direction) (client number : ℕ) (text : List ℕ) → length text ≤ 510 → drop 512 (sealed key way client number text) ≡ tag_of key way client number (masked key way number (block_of text))
unfolding sealed
drop-sealed key way client number text short =
    let cipher : List ℕ = masked key way number (block_of text) in
    drop_at cipher (tag_of key way client number cipher) 512 (length-masked key way number (block_of text) (length-block_of text short))

-- a body that opens has the tag of its front
pub tag_of_opened : (key : BodyKey) (way : Direction) (client number : ℕ) (body text : List ℕ) → Opens key way client number body text → drop 512 body ≡ tag_of key way client number (take 512 body)
tag_of_opened key way client number body text opens =
    ap (drop 512) opens.same ∙ drop-sealed key way client number text opens.short
    ∙ ap (tag_of key way client number) (sym (ap (take 512) opens.same ∙ take-sealed key way client number text opens.short))

-- and its front holds the text's block
pub block_of_opened : (key : BodyKey) (way : Direction) (client number : ℕ) (body text : List ℕ) → Opens key way client number body text → masked key way number (take 512 body) ≡ block_of text
block_of_opened key way client number body text opens =
    ap (masked key way number) (ap (take 512) opens.same ∙ take-sealed key way client number text opens.short)
    ∙ masked-twice key way number (block_of text) (length-block_of text opens.short)

-- a body whose block is spoiled opens to no text
pub spoiled_opens_never : (key : BodyKey) (way : Direction) (client number : ℕ) (body block : List ℕ) → block ≡ masked key way number (take 512 body) → IsSpoiled block → (text : List ℕ) → ¬ Opens key way client number body text
spoiled_opens_never key way client number body block is spoiled text opens =
    let P : List ℕ → Type 0 = λ b. IsSpoiled b in
    block_of_unspoiled text opens.short (subst P (is ∙ block_of_opened key way client number body text opens) spoiled)

-- a body with the tag of its front, which holds the block of a text, opens to it
pub opens_to : (key : BodyKey) (way : Direction) (client number : ℕ) (body block text : List ℕ) → length (take 512 body) ≡ 512 → drop 512 body ≡ tag_of key way client number (take 512 body) → block ≡ masked key way number (take 512 body) → block ≡ block_of text → length text ≤ 510 → Opens key way client number body text
unfolding sealed
opens_to key way client number body block text whole tagged is holds short =
    let cipher : masked key way number (block_of text) ≡ take 512 body =
    ap (masked key way number) (sym holds ∙ is) ∙ masked-twice key way number (take 512 body) whole in
    record {
      short = short;
      same = sym (take-append-drop 512 body) ∙ ap (λ (xs : List ℕ). take 512 body ++ xs) tagged
          ∙ ap (λ (xs : List ℕ). xs ++ tag_of key way client number xs) (sym cipher);
    }

-- a block is that of one text only
pub same_from_block_of : (text other : List ℕ) → length text ≤ 510 → length other ≤ 510 → block_of text ≡ block_of other → text ≡ other
same_from_block_of text other short other_short same =
    let lengths : length text ≡ length other =
    sym (length_in-block_of text short) ∙ ap (λ (b : List ℕ). length_in b) same ∙ length_in-block_of other other_short in
    sym (text_in_block text) ∙ ap (λ (n : ℕ). take n (drop 2 (block_of text))) lengths
    ∙ ap (λ (b : List ℕ). take (length other) (drop 2 b)) same ∙ text_in_block other

-- a body opens to one text only
pub opens_once : (key : BodyKey) (way : Direction) (client number : ℕ) (body text other : List ℕ) → Opens key way client number body text → Opens key way client number body other → text ≡ other
opens_once key way client number body text other first second =
    same_from_block_of text other first.short second.short
    (sym (block_of_opened key way client number body text first) ∙ block_of_opened key way client number body other second)

-- a masked block and its tag, written over zeros
pub body_written : (key : BodyKey) (way : Direction) (client number : ℕ) (text block cipher tag : List ℕ) (front zeros part : List ℕ) → length text ≤ 510 → block ≡ block_of text → cipher ≡ masked key way number block → tag ≡ tag_of key way client number cipher → front ≡ cipher → length zeros ≡ 32 → part ≡ tag → put_mid 512 32 (front ++ zeros) part ≡ sealed key way client number text
unfolding sealed
body_written key way client number text block cipher tag front zeros part short is_block is_cipher is_tag first blank second =
    let whole : length block ≡ 512 = ap length is_block ∙ length-block_of text short in
    let long : length front ≡ 512 = ap length (first ∙ is_cipher) ∙ length-masked key way number block whole in
    let under : front ≡ masked key way number (block_of text) = first ∙ is_cipher ∙ ap (masked key way number) is_block in
    let head : take 512 (front ++ zeros) ≡ front = take_at front zeros 512 long in
    let rest : drop 32 (drop 512 (front ++ zeros)) ≡ [] = ap (drop 32) (drop_at front zeros 512 long) ∙ drop_all 32 zeros (omega (arith, blank)) in
    let named : part ≡ tag_of key way client number (masked key way number (block_of text)) = second ∙ is_tag ∙ ap (tag_of key way client number) (sym first ∙ under) in
    ap (λ (xs : List ℕ). xs ++ (part ++ drop 32 (drop 512 (front ++ zeros)))) (head ∙ under)
    ∙ ap (λ (xs : List ℕ). masked key way number (block_of text) ++ (part ++ xs)) rest
    ∙ ap (λ (xs : List ℕ). masked key way number (block_of text) ++ xs) (append-nil part ∙ named)

-- the tag of a body
pub last_part : (body : List ℕ) → length body ≡ 544 → mid_of 512 32 body ≡ drop 512 body
last_part body whole = take_all 32 (drop 512 body) (omega (arith, length-drop 512 body, whole))

-- behind the text there are zeros
pub zeros_behind : (block : List ℕ) (len : ℕ) → len ≡ length (take len (drop 2 block)) → block ≡ block_of (take len (drop 2 block)) → drop len (drop 2 block) ≡ replicate (510 - len) 0
zeros_behind block len named holds =
    let text : List ℕ = take len (drop 2 block) in
    let behind : drop len (drop 2 block) ≡ drop (length text) (drop 2 (block_of text)) =
    ap (λ (n : ℕ). drop n (drop 2 block)) named ∙ ap (λ (b : List ℕ). drop (length text) (drop 2 b)) holds in
    behind ∙ ap (drop (length text)) (drop-block_of text) ∙ drop_at text (replicate (510 - length text) 0) (length text) refl
    ∙ ap (λ (n : ℕ). replicate {A = ℕ} (510 - n) 0) (sym named)
