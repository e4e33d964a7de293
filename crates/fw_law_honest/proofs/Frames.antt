-- What is read of bytes that a frame was written as.
use Rattle.std.proofs.Common.{ℕ, ◌^◌, ◌<◌, ◌≤◌, ◌≡◌, ◌≢◌, List, [], map, get_or, take, drop, Option, Some, None, refl, sym, ◌∙◌, ap, subst, arith, IsTrue}
use Rattle.std.specs.Prelude.{option_and_then}
use Rattle.std.specs.Int.{w32, from_be_bytes}
use Rattle.std.proofs.lemmas.Nat.{from_be_bytes-to_be_bytes_4}
use Rattle.std.proofs.lemmas.Option.{none-some, same_Some}
use Rattle.fw_list.specs.Numbers.{u32}
use Rattle.fw_base.specs.declared.params.Params.{Params}
use Rattle.fw_base.specs.Sizes.{accepted}
use Rattle.fw_frame.specs.Frames.{PlainEntry, PlainSigner, PlainFrame}
use Rattle.fw_frame.specs.Frames as frames
use Rattle.fw_frame.specs.Ranges.{IsFrame, frame_fits, view_fits, number_fits, entry_fits, signers_fit}
use Rattle.fw_frame.specs.Spelling.{frame_bytes}
use Rattle.fw_frame.specs.View.{Entry, Given, Agreed, Share, Reply, Frame, Agrees, Shares, Replies, viewed, viewed_entry, viewed_answers, first_given, plain_entry_of, plain_signer_of}
use Rattle.fw_frame.specs.Undoing.{frame_in}
use Rattle.fw_frame.proofs.Fields.{four}
use Rattle.fw_frame.proofs.Undoing.{frame_in-only, frame_in-each}
use Rattle.fw_frame.proofs.View.{plain_of-viewed}
use Rattle.fw_directory.specs.Directories.{PlainDirectory}
use Rattle.fw_means.specs.Means.{is_valid, if_valid, valid_in, written}
use Rattle.fw_rules.specs.World.{agreed_frame, agreed_in}
use Rattle.fw_lengths.proofs.Options.{when-some}
use Rattle.fw_lengths.proofs.Pieces.{numbers-few}

-- the frame that bytes are, and what is seen of it
pub record Reads (p : Params) (bytes : List ℕ) (v : Frame) : Type 0 where
  pub plain : PlainFrame
  pub is : IsFrame p bytes plain
  pub seen : viewed plain ≡ v

pub valid_reads : (d : PlainDirectory) (bytes : List ℕ) (v : Frame) → valid_in d bytes ≡ Some v → Reads d.params bytes v
valid_reads d bytes v e = by (frame_in d.params bytes) refl e
  where
    by : (o : Option PlainFrame) → frame_in d.params bytes ≡ o → option_and_then (if_valid d) o ≡ Some v → Reads d.params bytes v
    by None q h = absurd (none-some v h)
    by (Some f) q h = record {
      plain = f;
      is = frame_in-only d.params bytes f q;
      seen = same_Some (viewed f) v (when-some (is_valid d f) (Some (viewed f)) v h).1;
    }

-- ---- agreed frames

-- the bytes are an agreed frame of this number and entry
pub record IsAgreed (p : Params) (bytes : List ℕ) (n : ℕ) (e : Entry) : Type 0 where
  pub view : ℕ
  pub entry : PlainEntry
  pub signers : List PlainSigner
  pub is : IsFrame p bytes (frames.Agreed view n entry signers)
  pub seen : viewed_entry entry ≡ e

agreed_plain : (p : Params) (bytes : List ℕ) (f : PlainFrame) (n : ℕ) (e : Entry) → IsFrame p bytes f → agreed_frame (viewed f) ≡ Some (n, e) → IsAgreed p bytes n e
agreed_plain p bytes (frames.Agreed view number entry signers) n e is h =
    let same : (number, viewed_entry entry) ≡ (n, e) = same_Some (number, viewed_entry entry) (n, e) h in
    let number_is : number ≡ n = ap (λ (u : ℕ × Entry). u.0) same in
    record {
      view = view;
      entry = entry;
      signers = signers;
      is = subst (λ (k : ℕ). IsFrame p bytes (frames.Agreed view k entry signers)) number_is is;
      seen = ap (λ (u : ℕ × Entry). u.1) same;
    }
agreed_plain p bytes (frames.Request r) n e is h = absurd (none-some (n, e) h)
agreed_plain p bytes (frames.Propose view number entry sig) n e is h = absurd (none-some (n, e) h)
agreed_plain p bytes (frames.Vote phase view number agree digest sig) n e is h = absurd (none-some (n, e) h)
agreed_plain p bytes (frames.Change c) n e is h = absurd (none-some (n, e) h)
agreed_plain p bytes (frames.NewView view changes sig) n e is h = absurd (none-some (n, e) h)
agreed_plain p bytes (frames.Share number exec client stamp body shares) n e is h = absurd (none-some (n, e) h)
agreed_plain p bytes (frames.Reply number client stamp body secrets) n e is h = absurd (none-some (n, e) h)
agreed_plain p bytes (frames.Want number) n e is h = absurd (none-some (n, e) h)

pub agreed_seen : (d : PlainDirectory) (bytes : List ℕ) (v : Frame) (a : ℕ × Entry) → valid_in d bytes ≡ Some v → agreed_frame v ≡ Some a → agreed_in d bytes ≡ Some a
agreed_seen d bytes v a e h = ap (λ (o : Option Frame). option_and_then agreed_frame o) e ∙ h

pub agreed_is : (d : PlainDirectory) (bytes : List ℕ) (n : ℕ) (e : Entry) → agreed_in d bytes ≡ Some (n, e) → IsAgreed d.params bytes n e
agreed_is d bytes n e h = by (valid_in d bytes) refl h
  where
    by : (o : Option Frame) → valid_in d bytes ≡ o → option_and_then agreed_frame o ≡ Some (n, e) → IsAgreed d.params bytes n e
    by None q k = absurd (none-some (n, e) k)
    by (Some v) q k =
        let r = valid_reads d bytes v q in
        agreed_plain d.params bytes r.plain n e r.is (ap agreed_frame r.seen ∙ k)

-- the kind that stands in front
abbrev pub kind_in : List ℕ → ℕ
kind_in bytes = get_or bytes 0 0

-- no frame of another kind is an agreed frame
pub other_kind : (p : Params) (bytes : List ℕ) (n kind : ℕ) (e : Entry) → IsAgreed p bytes n e → kind_in bytes ≡ kind → kind ≢ 6 → ⊥
other_kind p bytes n kind e a same other = other (sym same ∙ ap (λ (xs : List ℕ). kind_in xs) a.is.spelled)

-- the number that stands in the bytes of an agreed frame
number_in : List ℕ → ℕ
number_in bytes = from_be_bytes w32 (take 4 (drop 5 bytes))

number_there : (view n : ℕ) (entry : PlainEntry) (signers : List PlainSigner) → n < 2 ^ 32 → number_in (frame_bytes (frames.Agreed view n entry signers)) ≡ n
unfolding number_in u32
number_there view n entry signers small = from_be_bytes-to_be_bytes_4 n small

number_fit : (p : Params) (n : ℕ) → IsTrue (number_fits p n) → n ≤ p.numbers
number_fit p n fits = grind arith

pub agreed_fits : (p : Params) (bytes : List ℕ) (n : ℕ) (e : Entry) (a : IsAgreed p bytes n e) → IsTrue (number_fits p n) × IsTrue (entry_fits p a.entry)
agreed_fits p bytes n e a =
    let h = four (view_fits p a.view) (number_fits p n) (entry_fits p a.entry) (signers_fit p a.signers) a.is.fits in
    (h.1, h.2)

pub same_number : (p : Params) (bytes : List ℕ) (n : ℕ) (e : Entry) (a : Agreed) → IsTrue (accepted p) → IsAgreed p bytes n e → a.number ≤ p.numbers → bytes ≡ written (Agrees a) → n ≡ a.number
same_number p bytes n e a sizes is few same =
    let most = numbers-few p sizes in
    let least = number_fit p n (agreed_fits p bytes n e is).0 in
    sym (number_there is.view n is.entry is.signers (omega arith)) ∙ ap number_in (sym is.is.spelled ∙ same)
    ∙ number_there a.view a.number (plain_entry_of a.entry) (map plain_signer_of a.signers) (omega arith)

-- ---- what is written again

pub written_again : (p : Params) (bytes : List ℕ) (v : Frame) → Reads p bytes v → written v ≡ bytes
written_again p bytes v r =
    ap written (sym r.seen) ∙ ap frame_bytes (plain_of-viewed p r.plain r.is.fits) ∙ sym r.is.spelled

-- what is read of the bytes of a frame that fits
pub read_one : (p : Params) (bytes : List ℕ) (v : Frame) (f : PlainFrame) → IsTrue (accepted p) → Reads p bytes v → IsFrame p bytes f → v ≡ viewed f
read_one p bytes v f sizes r is =
    let same : r.plain ≡ f = same_Some r.plain f (sym (frame_in-each p sizes bytes r.plain r.is) ∙ frame_in-each p sizes bytes f is) in
    sym r.seen ∙ ap viewed same

shown-kind : (f : PlainFrame) (s : Share) → viewed f ≡ Shares s → kind_in (frame_bytes f) ≡ 7
shown-kind (frames.Share number exec client stamp body shares) s e = refl
shown-kind (frames.Agreed view number entry signers) s e = absurd (let no : ⊥ = cc in no)
shown-kind (frames.Request r) s e = absurd (let no : ⊥ = cc in no)
shown-kind (frames.Propose view number entry sig) s e = absurd (let no : ⊥ = cc in no)
shown-kind (frames.Vote phase view number agree digest sig) s e = absurd (let no : ⊥ = cc in no)
shown-kind (frames.Change c) s e = absurd (let no : ⊥ = cc in no)
shown-kind (frames.NewView view changes sig) s e = absurd (let no : ⊥ = cc in no)
shown-kind (frames.Reply number client stamp body secrets) s e = absurd (let no : ⊥ = cc in no)
shown-kind (frames.Want number) s e = absurd (let no : ⊥ = cc in no)

replied-kind : (f : PlainFrame) (s : Reply) → viewed f ≡ Replies s → kind_in (frame_bytes f) ≡ 8
replied-kind (frames.Reply number client stamp body secrets) s e = refl
replied-kind (frames.Share number exec client stamp body shares) s e = absurd (let no : ⊥ = cc in no)
replied-kind (frames.Agreed view number entry signers) s e = absurd (let no : ⊥ = cc in no)
replied-kind (frames.Request r) s e = absurd (let no : ⊥ = cc in no)
replied-kind (frames.Propose view number entry sig) s e = absurd (let no : ⊥ = cc in no)
replied-kind (frames.Vote phase view number agree digest sig) s e = absurd (let no : ⊥ = cc in no)
replied-kind (frames.Change c) s e = absurd (let no : ⊥ = cc in no)
replied-kind (frames.NewView view changes sig) s e = absurd (let no : ⊥ = cc in no)
replied-kind (frames.Want number) s e = absurd (let no : ⊥ = cc in no)

-- the kinds of bytes that are read as a share, and as a reply
pub share_kind : (p : Params) (bytes : List ℕ) (s : Share) → Reads p bytes (Shares s) → kind_in bytes ≡ 7
share_kind p bytes s r = ap (λ (xs : List ℕ). kind_in xs) r.is.spelled ∙ shown-kind r.plain s r.seen

pub reply_kind : (p : Params) (bytes : List ℕ) (s : Reply) → Reads p bytes (Replies s) → kind_in bytes ≡ 8
reply_kind p bytes s r = ap (λ (xs : List ℕ). kind_in xs) r.is.spelled ∙ replied-kind r.plain s r.seen

-- the first answer that is seen of a reply that fits
pub first_again : (p : Params) (n client stamp : ℕ) (body values : List ℕ) → IsTrue (frame_fits p (frames.Reply n client stamp body values)) → first_given (viewed_answers client stamp body) ≡ record { client = client; stamp = stamp; body = body }
first_again p n client stamp body values fits = ap given_in (plain_of-viewed p (frames.Reply n client stamp body values) fits)
  where
    given_in : PlainFrame → Given
    given_in (frames.Reply number c s b secrets) = record { client = c; stamp = s; body = b }
    given_in (frames.Share number exec c s b shares) = record { client = c; stamp = s; body = b }
    given_in (frames.Agreed view number entry signers) = record { client = 0; stamp = 0; body = [] }
    given_in (frames.Request r) = record { client = 0; stamp = 0; body = [] }
    given_in (frames.Propose view number entry sig) = record { client = 0; stamp = 0; body = [] }
    given_in (frames.Vote phase view number agree digest sig) = record { client = 0; stamp = 0; body = [] }
    given_in (frames.Change c) = record { client = 0; stamp = 0; body = [] }
    given_in (frames.NewView view changes sig) = record { client = 0; stamp = 0; body = [] }
    given_in (frames.Want number) = record { client = 0; stamp = 0; body = [] }
