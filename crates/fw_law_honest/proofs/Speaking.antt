-- What the speeches of the roles read of messages.
use Rattle.std.proofs.Common.{ℕ, ◌≡◌, true, List, Option, Some, refl, sym}
use Rattle.std.specs.Prelude.{option_and_then}
use Rattle.std.proofs.lemmas.Option.{none-some, same_Some}
use Rattle.fw_base.specs.declared.seat.Seat.{Seat}
use Rattle.fw_base.specs.declared.seat.Seat.TheVariants.{Agree, Exec, Filter, Client}
use Rattle.fw_base.specs.Seats.{above}
use Rattle.fw_op.specs.declared.reply.Reply as said
use Rattle.fw_op.specs.declared.start.Start.{Start}
use Rattle.fw_trace.specs.declared.Told.{Told}
use Rattle.fw_trace.specs.declared.Share as shares
use Rattle.fw_trace.specs.Lists.{In}
use Rattle.fw_frame.specs.View.{Entry, Given, Share, Reply, Frame, Agrees, Shares, Replies}
use Rattle.fw_rules.specs.Means.{Means, Bodies}
use Rattle.fw_rules.specs.Choices.{admitted}
use Rattle.fw_rules.specs.Roles.{told_one, told_in, client_speech, agreed_frame, executor_speech, Valued, replied_number, share_from, filter_speech}
use Rattle.fw_rules.specs.World as world
use Rattle.fw_lengths.proofs.Options.{when-some}
use Rattle.fw_law_words.proofs.Firsts.{first_some-in}
use Rattle.fw_law_words.proofs.Roles as words

-- a frame that is admitted, and what is made of it
pub record Admits {M B : Type 0} (k : Means M) (f : Frame → Option B) (m : M) (y : B) : Type 0 where
  pub frame : Frame
  pub read : k.read m ≡ Some frame
  pub gives : f frame ≡ Some y

pub admits : {M B : Type 0} (k : Means M) (seat from : Seat) (m : M) (f : Frame → Option B) (y : B) → option_and_then f (admitted k seat from m) ≡ Some y → Admits k f m y
admits k seat from m f y e =
    let a = words.admits k seat from m f y e in
    record { frame = a.frame; read = (when-some _ (k.read m) a.frame a.read).1; gives = a.gives }

-- what an executor takes for agreed is so
exec_agreed : (from : Seat) (v : Frame) (a : ℕ × Entry) → agreed_frame from v ≡ Some a → world.agreed_frame v ≡ Some a
exec_agreed (Filter r c) (Agrees x) a e = e
exec_agreed (Exec j) (Agrees x) a e = e
exec_agreed _ _ a e = absurd (none-some a e)

pub agreed-heard : {M : Type 0} (k : Means M) (b : Bodies) (starts : List Start) (j : ℕ) (from : Seat) (m : M) (a : ℕ × Entry) → (executor_speech k b starts j).agreed from m ≡ Some a → Admits k world.agreed_frame m a
agreed-heard k b starts j from m a e =
    let x = admits k (Exec j) from m (agreed_frame from) a e in
    record { frame = x.frame; read = x.read; gives = exec_agreed from x.frame a x.gives }

-- a reply from a filter above
pub record FromAbove {M : Type 0} (k : Means M) (seat from : Seat) (m : M) : Type 0 where
  pub row : ℕ
  pub column : ℕ
  pub reply : Reply
  pub filter : from ≡ Filter row column
  pub over : above k.params seat from ≡ true
  pub read : k.read m ≡ Some (Replies reply)

from_filter : {M : Type 0} (k : Means M) (seat from : Seat) (m : M) (v : Frame) (n : ℕ) → above k.params seat from ≡ true → k.read m ≡ Some v → replied_number from v ≡ Some n → FromAbove k seat from m
from_filter k seat (Filter r c) m (Replies a) n up read e = record { row = r; column = c; reply = a; filter = refl; over = up; read = read }
from_filter k seat _ m _ n up read e = absurd (none-some n e)

pub replied-heard : {M : Type 0} (k : Means M) (r c : ℕ) (from : Seat) (m : M) (n : ℕ) → (filter_speech k r c).replied from m ≡ Some n → FromAbove k (Filter r c) from m
replied-heard k r c from m n e =
    let x = admits k (Filter r c) from m (replied_number from) n ((when-some _ _ n e).1) in
    from_filter k (Filter r c) from m x.frame n ((when-some _ _ n e).0) x.read x.gives

-- a share from the executor that it names
pub record FromExec {M : Type 0} (k : Means M) (from : Seat) (m : M) (s : shares.Share Valued) : Type 0 where
  pub exec : ℕ
  pub share : Share
  pub own : from ≡ Exec exec
  pub read : k.read m ≡ Some (Shares share)
  pub same : s ≡ record { number = share.number; exec = share.exec; value = (share.answers, share.values) }

from_exec : {M : Type 0} (k : Means M) (from : Seat) (m : M) (v : Frame) (s : shares.Share Valued) → k.read m ≡ Some v → share_from from v ≡ Some s → FromExec k from m s
from_exec k (Exec j) m (Shares x) s read e = record {
  exec = j;
  share = x;
  own = refl;
  read = read;
  same = sym (same_Some (record { number = x.number; exec = x.exec; value = (x.answers, x.values) }) s ((when-some _ (Some (record { number = x.number; exec = x.exec; value = (x.answers, x.values) })) s e).1));
}
from_exec k _ m _ s read e = absurd (none-some s e)

pub shared-heard : {M : Type 0} (k : Means M) (r c : ℕ) (from : Seat) (m : M) (s : shares.Share Valued) → (filter_speech k r c).shared from m ≡ Some s → FromExec k from m s
shared-heard k r c from m s e =
    let x = admits k (Filter r c) from m (share_from from) s e in
    from_exec k from m x.frame s x.read x.gives

-- what a client is told, by an answer of a reply from an agreement node
pub record FromNode {M : Type 0} (k : Means M) (b : Bodies) (c : ℕ) (from : Seat) (m : M) (t : Told said.Reply) : Type 0 where
  pub node : ℕ
  pub reply : Reply
  pub given : Given
  pub own : from ≡ Agree node
  pub read : k.read m ≡ Some (Replies reply)
  pub there : In given reply.answers
  pub tells : told_one b c reply.number given ≡ Some t

from_node : {M : Type 0} (k : Means M) (b : Bodies) (c : ℕ) (from : Seat) (m : M) (v : Frame) (t : Told said.Reply) → k.read m ≡ Some v → told_in b c from v ≡ Some t → FromNode k b c from m t
from_node k b c (Agree i) m (Replies r) t read e =
    let g = first_some-in (told_one b c r.number) r.answers t e in
    record { node = i; reply = r; given = g.0; own = refl; read = read; there = g.1; tells = g.2 }
from_node k b c _ m _ t read e = absurd (none-some t e)

pub told-heard : {M : Type 0} (k : Means M) (b : Bodies) (c : ℕ) (from : Seat) (m : M) (t : Told said.Reply) → (client_speech k b c).told from m ≡ Some t → FromNode k b c from m t
told-heard k b c from m t e =
    let x = admits k (Client c) from m (told_in b c from) t e in
    from_node k b c from m x.frame t x.read x.gives
