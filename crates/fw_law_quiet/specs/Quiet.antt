-- A node that is quiet: no pass has anything left to choose.
use Rattle.std.specs.Prelude.{ℕ, ◌≡◌, None}
use Rattle.fw_trace.specs.Lists.{In}
use Rattle.fw_frame.specs.View.{Request}
use Rattle.fw_rules.specs.Agree.{Self, Node, numbers, offers_choice, offers_request, prepares, pledges, commits, goes_up}
use Rattle.fw_rules.specs.Views.{adopts, joins, makes}

-- no new view to adopt, no view change to join, and no new view to make
pub record IsTurned {M : Type 0} (me : Self M) (x : Node) : Type 0 where
  pub adopts : adopts me x ≡ None
  pub joins : joins me x ≡ None
  pub makes : makes me x ≡ None

-- nothing to propose: at no number what the new view chose, and no remembered request
pub record HasOffered {M : Type 0} (me : Self M) (x : Node) : Type 0 where
  pub choices : (n : ℕ) → In n (numbers me) → offers_choice me x n ≡ None
  pub requests : (r : Request) → In r x.heard.requests → offers_request me x r ≡ None

-- nothing to vote for, nothing to commit, and nothing to send up, at any number
pub record IsQuiet {M : Type 0} (me : Self M) (x : Node) : Type 0 where
  pub turned : IsTurned me x
  pub offered : HasOffered me x
  pub prepares : (n : ℕ) → In n (numbers me) → prepares me x n ≡ None
  pub pledges : (n : ℕ) → In n (numbers me) → pledges me x n ≡ None
  pub commits : (n : ℕ) → In n (numbers me) → commits me x n ≡ None
  pub goes_up : (n : ℕ) → In n (numbers me) → goes_up me x n ≡ None
