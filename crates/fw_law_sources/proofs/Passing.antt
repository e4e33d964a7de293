-- Messages that are passed on as they were heard, and those that a seat makes: where their parts come from.
use Rattle.std.proofs.Common.{inl, inr, List, [], ◌∷◌, sym, ◌∙◌, ap, subst, ◌&&◌}
use Rattle.fw_base.specs.declared.seat.Seat.{Seat}
use Rattle.fw_base.specs.Seats.{fits, linked}
use Rattle.fw_trace.specs.declared.Input.{Input}
use Rattle.fw_trace.specs.declared.Input.TheVariants.{Heard, Tick, Submitted}
use Rattle.fw_trace.specs.Lists.{In}
use Rattle.fw_frame.specs.Parts.{Part}
use Rattle.fw_frame.specs.View.{Frame}
use Rattle.fw_rules.specs.Means.{Means}
use Rattle.fw_law_words.proofs.Tests.{when-some}
use Rattle.fw_law_filter.specs.Heard.{HeardNow, WasHeard}
use Rattle.fw_law_sources.specs.Sources.{IsPassed, IsMade, IsBare, IsSourced, IsWhollyHeard}

pub was_heard : {M O : Type 0} (P : Seat → M → Type 0) (h : List (Input M O)) (from : Seat) (m : M) → P from m → In (Heard from m) h → WasHeard P h
was_heard P [] from m p i = absurd i
was_heard P (i ∷ h) from m p (inl e) = inl (subst (HeardNow P) e p)
was_heard P (i ∷ h) from m p (inr j) = inr (was_heard P h from m p j)

-- what is passed on is a valid frame each of whose parts was heard
heard_longer : {M O : Type 0} (k : Means M) (me : Seat) (Kind : Frame → Type 0) (i : Input M O) (h : List (Input M O)) (m : M) → IsWhollyHeard k me Kind h m → IsWhollyHeard k me Kind (i ∷ h) m
heard_longer k me Kind i h m w = record { frame = w.frame; read = w.read; kind = w.kind; heard = λ part j. inr (w.heard part j) }

heard_now : {M O : Type 0} (k : Means M) (me : Seat) (Kind : Frame → Type 0) (i : Input M O) (h : List (Input M O)) (m : M) → HeardNow (IsPassed k me Kind m) i → IsWhollyHeard k me Kind (i ∷ h) m
heard_now k me Kind (Heard from sent) h m p = record {
  frame = p.frame;
  read = ap k.read (sym p.same) ∙ (when-some (fits k.params from && linked k.params from me) (k.read sent) p.frame p.read).1;
  kind = p.kind;
  heard = λ part j. inl (record { frame = p.frame; read = p.read; among = j });
}
heard_now k me Kind Tick h m p = absurd p
heard_now k me Kind (Submitted op) h m p = absurd p

pub passed_heard : {M O : Type 0} (k : Means M) (me : Seat) (Kind : Frame → Type 0) (h : List (Input M O)) (m : M) → WasHeard (IsPassed k me Kind m) h → IsWhollyHeard k me Kind h m
passed_heard k me Kind [] m w = absurd w
passed_heard k me Kind (i ∷ h) m (inl now) = heard_now k me Kind i h m now
passed_heard k me Kind (i ∷ h) m (inr was) = heard_longer k me Kind i h m (passed_heard k me Kind h m was)

-- what has one part that it made, or none, has each of them from itself
pub made_sourced : {M O : Type 0} (k : Means M) (me : Seat) (Kind : Frame → Type 0) (Own : Part → Type 0) (h : List (Input M O)) (m : M) → IsMade k Kind Own m → IsSourced k me Own h m
made_sourced k me Kind Own h m a = record {
  frame = a.frame;
  written = a.written;
  sourced = λ part i. elim (subst (In part) a.one i) [
    | inl e ↦ inl (subst Own (sym e) a.own)
    | inr none ↦ absurd none
  ];
}

pub bare_sourced : {M O : Type 0} (k : Means M) (me : Seat) (Kind : Frame → Type 0) (Own : Part → Type 0) (h : List (Input M O)) (m : M) → IsBare k Kind m → IsSourced k me Own h m
bare_sourced k me Kind Own h m a = record {
  frame = a.frame;
  written = a.written;
  sourced = λ part i. (let none : In part [] = subst (In part) a.bare i in absurd none);
}
