-- An executor that has heard nothing.
use Rattle.std.proofs.Common.{◌≡◌, List, [], length, replicate, refl, sym, ap, ◌∙◌, subst, arith, IsTrue}
use Rattle.std.specs.List.{list_all}
use Rattle.std.proofs.lemmas.List.Elements.{All-nil}
use Rattle.fw_base.specs.declared.params.Params.{Params}
use Rattle.fw_base.specs.Sizes.{accepted}
use Rattle.fw_op.specs.declared.start.Start.{Start}
use Rattle.fw_record.specs.Records.{starts_fit}
use Rattle.fw_store.specs.Store.{ordered}
use Rattle.fw_ref.specs.Reference.{unasked}
use Rattle.fw_ref.specs.Ranges.{is_stored}
use Rattle.fw_ref.proofs.Growing.{CanStart, can_start}
use Rattle.fw_ref.proofs.Listing.{few_clients}
use Rattle.fw_exec.specs.Kept.{Keeps, IsRunning}

-- the records to start with are such as a client may have put
pub stored : (p : Params) (starts records : List Start) → IsTrue (accepted p) → IsTrue (starts_fit p.clients starts) → records ≡ ordered starts → IsTrue (list_all is_stored records)
stored p starts records sizes fit same = let can : CanStart starts = can_start p.clients starts (few_clients p sizes) fit in ap (list_all is_stored) same ∙ can.stored

pub begins : (p : Params) (starts records : List Start) (x : Keeps) → IsTrue (accepted p) → IsTrue (starts_fit p.clients starts) → records ≡ ordered starts
    → x ≡ record { kept = []; from = []; done = 0; state = record { records = records; last = replicate 8 unasked }; shares = [] } → IsRunning p x
begins p starts records x sizes fit same is = subst (IsRunning p) (sym is) (record {
  kept = All-nil _;
  last = omega arith;
  reached = record {
    few =
        let can : CanStart starts = can_start p.clients starts (few_clients p sizes) fit in
        let many = ap (λ (rs : List Start). length rs) same in
        let few = can.few in
        omega (arith, many, few);
    sealable = refl;
  };
})
