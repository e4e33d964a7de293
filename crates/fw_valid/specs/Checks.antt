-- What a check of a frame's pieces finds, and how many digests it takes.
use Rattle.std.specs.Prelude.{◌↔◌, ◌<◌, ◌≤◌, ℕ, ◌+◌, ◌*◌, Bool, List, All, IsTrue, length, map, flat_map}
use Rattle.std.specs.List.{list_all}
use Rattle.fw_base.specs.declared.params.Params.{Params}
use Rattle.fw_text.specs.Texts.{hash}
use Rattle.fw_frame.specs.Frames.{PlainSigner}
use Rattle.fw_frame.specs.Parts.{Piece, PlainPart, part_of, digested}
use Rattle.fw_frame.specs.Ranges.{view_fits, number_fits, signer_fits}
use Rattle.fw_directory.specs.Directories.{PlainDirectory}
use Rattle.fw_valid.specs.Validity.{IsValidPart}

-- the parts of pieces: what nothing signs has none
abbrev pub parts_in : List Piece → List PlainPart
parts_in pieces = map (digested hash) (flat_map part_of pieces)

-- it was found whether each part of these pieces is valid, by at most so many steps for each part, and by at least 256 where
-- all are valid
pub record Checks (d : PlainDirectory) (each : ℕ) (found : Bool) (before after : ℕ) (pieces : List Piece) : Type 0 where
  pub valid : IsTrue found ↔ All (IsValidPart d) (parts_in pieces)
  pub most : after ≤ before + each * length (parts_in pieces)
  pub least : IsTrue found → before + 256 * length (parts_in pieces) ≤ after

-- votes at a number, in a view: there are some, of nodes of the deployment
pub record AreVotes (p : Params) (view number : ℕ) (signers : List PlainSigner) : Type 0 where
  pub in_views : IsTrue (view_fits p view)
  pub in_numbers : IsTrue (number_fits p number)
  pub each : IsTrue (list_all (signer_fits p) signers)
  pub some : 0 < length signers
