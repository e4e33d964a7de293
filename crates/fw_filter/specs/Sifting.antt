-- What a filter keeps, and what it keeps and sends after a step.
use Rattle.std.specs.Prelude.{◌≡◌, ℕ, true, List, ◌++◌, Option, is_some}
use Rattle.fw_base.specs.declared.params.Params.{Params}
use Rattle.fw_base.specs.declared.seat.Seat.{Seat}
use Rattle.fw_trace.specs.Filter as filters
use Rattle.fw_node.specs.Histories.{Out}
use Rattle.fw_rules.specs.Roles.{Valued, combined_of, ups, downs}
use Rattle.fw_share.specs.Shares.{Share}
use Rattle.fw_share.specs.Combining.{joining}

abbrev pub Keeps : Type 0
Keeps = filters.Filter (List ℕ) Valued

abbrev pub Speech : Type 0
Speech = filters.Speech (List ℕ) Valued

-- the sizes of its deployment, its row, and what it keeps
pub record Sifted : Type 0 where
  pub params : Params
  pub row : ℕ
  pub keeps : Keeps

-- it speaks as the filters of a row do: to the seats above and below it, and with replies that are joined from shares
pub record SpeaksIn (p : Params) (row : ℕ) (sp : Speech) : Type 0 where
  pub ups : sp.ups ≡ ups p row
  pub downs : sp.downs ≡ downs p row
  pub combined : (n : ℕ) (kept : List Share) → sp.combined n kept ≡ combined_of (joining p) n kept

-- the reply of each number whose shares make one is held
abbrev pub IsReady : Speech → Keeps → Type 0
IsReady sp x = (n : ℕ) → is_some (sp.combined n x.shares) ≡ true → is_some (filters.held_of x.held n) ≡ true

-- it keeps this after the step, and sends this
abbrev pub Does : Keeps → Out → Out → Keeps × Out → Type 0
Does x before after step = (x ≡ step.0) × (after ≡ before ++ step.1)

-- what it does with a frame from a seat, by what that is: an agreed frame, a reply or a share
abbrev pub does_with : Speech → Keeps → Seat → List ℕ → Option ℕ → Option ℕ → Option Share → Keeps × Out
does_with sp x from m agreed replied shared =
    let a = filters.hear_agreed sp x from m agreed in
    let r = filters.hear_reply sp a.0 m replied in
    let s = filters.hear_share sp r.0 shared in
    (s.0, a.1 ++ r.1 ++ s.1)
