-- Frames as data, without where their bytes lie.
use Rattle.std.specs.Prelude.{ℕ, List, Option}

pub record PlainRequest : Type 0 where
  pub client : ℕ
  pub stamp : ℕ
  pub body : List ℕ
  pub sig : List ℕ

-- a request, or null
abbrev pub PlainEntry : Type 0
PlainEntry = Option PlainRequest

pub record PlainSigner : Type 0 where
  pub agree : ℕ
  pub sig : List ℕ

pub record PlainProof : Type 0 where
  pub view : ℕ
  pub number : ℕ
  pub entry : PlainEntry
  pub signers : List PlainSigner

pub record PlainChange : Type 0 where
  pub view : ℕ
  pub agree : ℕ
  pub proofs : List PlainProof
  pub sig : List ℕ

pub data PlainFrame : Type 0 where
  Request : (request : PlainRequest) → PlainFrame
  Propose : (view number : ℕ) (entry : PlainEntry) (sig : List ℕ) → PlainFrame
  Vote : (phase view number agree : ℕ) (digest sig : List ℕ) → PlainFrame
  Change : (change : PlainChange) → PlainFrame
  NewView : (view : ℕ) (changes : List PlainChange) (sig : List ℕ) → PlainFrame
  Agreed : (view number : ℕ) (entry : PlainEntry) (signers : List PlainSigner) → PlainFrame
  Share : (number exec client stamp : ℕ) (body shares : List ℕ) → PlainFrame
  Reply : (number client stamp : ℕ) (body secrets : List ℕ) → PlainFrame
  Want : (number : ℕ) → PlainFrame
