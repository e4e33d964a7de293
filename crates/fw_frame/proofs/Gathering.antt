-- How what was gathered grows: nothing, then more, then all.
use Rattle.std.proofs.Common.{◌≡◌, List, [], ◌++◌, sym, ap, ◌∙◌, append_assoc, refl}
use Rattle.std.specs.Prelude.{map, flat_map}
use Rattle.std.proofs.lemmas.List.{map-append, append-nil}
use Rattle.std.proofs.lemmas.Grind.{flat_map-append}
use Rattle.fw_base.specs.declared.params.Params.{Params}
use Rattle.fw_text.specs.Texts.{hash}
use Rattle.fw_frame.specs.declared.parts.Gathered.{Gathered}
use Rattle.fw_frame.specs.Frames.{PlainFrame, Request, Propose, Vote, Change, NewView, Agreed, Share, Reply, Want}
use Rattle.fw_frame.specs.Parts.{texts, Piece, plain_part, part_of, text_of, digested, with_digest}
use Rattle.fw_frame.specs.Gathered.{Gathers}

pub gathers_nothing : (a : Gathered) → Gathers a a []
gathers_nothing a = record { texts = sym (append-nil a.texts); parts = sym (append-nil (map plain_part a.parts)) }

-- first some pieces, then more
pub gathers_more : (a b c : Gathered) (xs ys : List Piece) → Gathers a b xs → Gathers b c ys → Gathers a c (xs ++ ys)
gathers_more a b c xs ys first then = record {
  texts = then.texts ∙ ap (λ all. all ++ map (with_digest hash) (map text_of ys)) first.texts ∙ simp (map-append, append_assoc);
  parts = then.parts ∙ ap (λ all. all ++ map (digested hash) (flat_map part_of ys)) first.parts ∙ simp (flat_map-append, map-append, append_assoc);
}

-- the primary stands in no text
pub texts_alike : (p q : Params) (frame : PlainFrame) → texts p hash frame ≡ texts q hash frame
texts_alike p q (Request r) = refl
texts_alike p q (Propose view number entry sig) = refl
texts_alike p q (Vote phase view number agree digest sig) = refl
texts_alike p q (Change c) = refl
texts_alike p q (NewView view changes sig) = simp map-append
texts_alike p q (Agreed view number entry signers) = refl
texts_alike p q (Share number exec client stamp body shares) = refl
texts_alike p q (Reply number client stamp body secrets) = refl
texts_alike p q (Want number) = refl
