-- Where the new views come from that a node adopts, and what it has committed.
use Rattle.std.specs.Prelude.{ℕ, ◌≡◌, ◌⊎◌, List, map}
use Rattle.fw_base.specs.declared.params.Params.{Params}
use Rattle.fw_base.specs.Sizes.{primary}
use Rattle.fw_trace.specs.Lists.{In}
use Rattle.fw_frame.specs.View.{Change, NewView, Agreed}
use Rattle.fw_rules.specs.Agree.{Node, Adopted}
use Rattle.fw_law_node.specs.Once.{Once}
use Rattle.fw_law_node.specs.Facts.{AreQuorum, signed_by}
use Rattle.fw_law_node.specs.Ranges.{IsPlace}

-- it remembers a new view that says this
pub record IsRemembered (x : Node) (a : Adopted) : Type 0 where
  pub new_view : NewView
  pub among : In new_view x.heard.new_views
  pub its_view : new_view.view ≡ a.view
  pub its_changes : new_view.changes ≡ a.changes

abbrev pub changed_by : List Change → List ℕ
changed_by changes = map (λ c. c.agree) changes

-- as the primary of its view it made it: of view changes to the view that it remembers or has made, by a quorum
pub record IsMade (p : Params) (node : ℕ) (x : Node) (a : Adopted) : Type 0 where
  pub by : primary p a.view ≡ node
  pub nodes : AreQuorum p (changed_by a.changes)
  pub views : (c : Change) → In c a.changes → c.view ≡ a.view
  pub known : (c : Change) → In c a.changes → In c x.own.moves ⊎ In c x.heard.changes

-- each new view that it adopts it has heard, or made
abbrev pub AreBegun : Params → ℕ → Node → Type 0
AreBegun p node x = (a : Adopted) → In a x.own.adopted → IsRemembered x a ⊎ IsMade p node x a

abbrev pub agreed_place : Agreed → ℕ
agreed_place a = a.number

-- one entry is committed for each number, with the commit votes of a quorum
pub record AreCommitted (p : Params) (committed : List Agreed) : Type 0 where
  pub once : Once agreed_place committed
  pub places : (a : Agreed) → In a committed → IsPlace p a.view a.number
  pub signers : (a : Agreed) → In a committed → AreQuorum p (signed_by a.signers)
