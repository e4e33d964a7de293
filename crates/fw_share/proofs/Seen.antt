-- A share of the deployment is whole, and so are those that are kept with it.
use Rattle.std.proofs.Common.{◌≡◌, ℕ, ◌<◌, List, [], ◌∷◌, ◌++◌, Option, Some, None, false, nat_lt, map, length, All, refl, sym, ap, subst, ◌∙◌, IsTrue}
use Rattle.std.specs.Prelude.{IfSome}
use Rattle.std.proofs.lemmas.Bool.{eqb-true, ltb-true}
use Rattle.std.proofs.lemmas.List.{map-append}
use Rattle.std.proofs.lemmas.List.Elements.{All-append, All-cons, All-nil}
use Rattle.fw_list.specs.declared.limits.TheConstants.{SIGNATURE_LEN}
use Rattle.fw_base.specs.declared.params.Params.{Params}
use Rattle.fw_base.specs.Sizes.{executors}
use Rattle.fw_trace.specs.Filter.{has_share}
use Rattle.fw_frame.specs.Frames.{PlainFrame}
use Rattle.fw_frame.specs.Frames as frames
use Rattle.fw_frame.specs.Ranges.{frame_fits, number_fits, answer_fits, values_fit}
use Rattle.fw_frame.specs.View.{Frame, Shares, viewed}
use Rattle.fw_frame.specs.View as view
use Rattle.fw_frame.proofs.Fields.{four}
use Rattle.fw_rules.specs.Roles.{combined_of}
use Rattle.fw_share.specs.declared.kept.KeptShare.{KeptShare}
use Rattle.fw_share.specs.Shares.{Share, IsSeen, IsWhole, AreFirsts, share_in, valued}
use Rattle.fw_share.specs.Combining.{joining, added, added_if, made_by, made_if}
use Rattle.fw_share.proofs.Firsts.{firsts-more}
use Rattle.fw_share.proofs.First.{first-made}

abbrev exec-of : Frame → ℕ
exec-of (Shares s) = s.exec
exec-of _ = 0

abbrev values-of : Frame → List ℕ
values-of (Shares s) = s.values
values-of _ = []

abbrev IsFull : Params → view.Share → Type 0
IsFull p s = (s.exec < executors p) × (length s.values ≡ SIGNATURE_LEN)

full : (p : Params) (s : view.Share) (f : PlainFrame) → IsTrue (frame_fits p f) → viewed f ≡ Shares s → IsFull p s
full p s (frames.Share number exec client stamp body shares) fit same =
    let parts = four (number_fits p number) (nat_lt exec (executors p)) (answer_fits p client stamp body) (values_fit shares) fit in
    (subst (λ e. e < executors p) (ap exec-of same) (ltb-true exec (executors p) parts.1), ap length (sym (ap values-of same)) ∙ eqb-true (length shares) SIGNATURE_LEN parts.3)
full p s (frames.Request r) fit same = absurd (let no : ⊥ = cc in no)
full p s (frames.Propose v n e sig) fit same = absurd (let no : ⊥ = cc in no)
full p s (frames.Vote h v n a d sig) fit same = absurd (let no : ⊥ = cc in no)
full p s (frames.Change c) fit same = absurd (let no : ⊥ = cc in no)
full p s (frames.NewView v cs sig) fit same = absurd (let no : ⊥ = cc in no)
full p s (frames.Agreed v n e ss) fit same = absurd (let no : ⊥ = cc in no)
full p s (frames.Reply n c t b ss) fit same = absurd (let no : ⊥ = cc in no)
full p s (frames.Want n) fit same = absurd (let no : ⊥ = cc in no)

pub seen-full : (p : Params) (v : Frame) (s : view.Share) → IsSeen p v → v ≡ Shares s → IsFull p s
seen-full p v s seen same = full p s seen.0 seen.1 (seen.2 ∙ same)

pub kept-more : (p : Params) (kept : List KeptShare) (one : KeptShare) → All (IsWhole p) (map valued kept) → IsWhole p (valued one) → AreFirsts (map valued kept) → has_share (map valued kept) one.number one.exec ≡ false
    → All (IsWhole p) (map valued (kept ++ one ∷ [])) × AreFirsts (map valued (kept ++ one ∷ []))
kept-more p kept one whole new firsts first =
    let more = sym (map-append valued kept (one ∷ [])) in (
      subst (All (IsWhole p)) more (All-append (IsWhole p) (map valued kept) (valued one ∷ []) whole (All-cons (IsWhole p) (valued one) [] new (All-nil _))),
      subst AreFirsts more (firsts-more (map valued kept) (valued one) firsts first),
    )

abbrev At : view.Share → Share
At s = record { number = s.number; exec = s.exec; value = (s.answers, s.values) }

-- what is made first, and what is kept, of a share that is seen so
pub first-kept : (p : Params) (v : Frame) (s : view.Share) (old new : List KeptShare) (one : KeptShare) (made : Option (List ℕ)) → v ≡ Shares s → valued one ≡ At s
    → has_share (map valued old) one.number one.exec ≡ false → new ≡ old ++ one ∷ [] → made ≡ made_by p (map valued old) (valued one)
    → IfSome (share_in v) (λ t. has_share (map valued old) t.number t.exec ≡ false → combined_of (joining p) t.number (map valued old) ≡ None → made ≡ combined_of (joining p) t.number (map valued new))
first-kept p v s old new one made is same first keeps makes =
    let known : Some (valued one) ≡ share_in v = ap Some same ∙ ap share_in (sym is) in
    let adds : map valued new ≡ added_if (map valued old) (share_in v) =
    ap (map valued) keeps ∙ map-append valued old (one ∷ []) ∙ sym (not-kept (map valued old) (valued one) first) ∙ ap (added_if (map valued old)) known in
    first-made p (share_in v) (map valued old) (map valued new) made (makes ∙ ap (made_if p (map valued old)) known) adds
  where
    not-kept : (kept : List Share) (t : Share) → has_share kept t.number t.exec ≡ false → added kept t ≡ kept ++ t ∷ []
    not-kept kept t none = rw none refl
