use Rattle.std.proofs.Common.{subst, ◌≡◌, ◌≢◌, IsTrue, MatchOption}
use Rattle.fw_base.specs.Seats.{fits}
use Rattle.fw_base.specs.Names.{short_name}
use Rattle.fw_base.specs.declared.seat.Seat.{Seat}
use Rattle.fw_base.proofs.Naming.{found_by_name, each_by_name}
use Rattle.fw_base.proofs.seat.Seat.read.Goals as goal

-- src/name.rt:40:5
pub returns-clause-found : goal.returns-clause-found
returns-clause-found c = found_by_name c.args.params.now c.args.text.now c.named.result c.requires (subst (λ bs. MatchOption c.named.result ((seat : Seat) → IsTrue (fits c.args.params.now seat) → bs ≢ short_name seat) (λ seat. IsTrue (fits c.args.params.now seat) × (bs ≡ short_name seat))) c.as_bytes.ensures.value c.named.ensures)

-- src/name.rt:40:5
pub returns-clause-each : goal.returns-clause-each
returns-clause-each c = each_by_name c.args.params.now c.args.text.now c.named.result c.requires (subst (λ bs. MatchOption c.named.result ((seat : Seat) → IsTrue (fits c.args.params.now seat) → bs ≢ short_name seat) (λ seat. IsTrue (fits c.args.params.now seat) × (bs ≡ short_name seat))) c.as_bytes.ensures.value c.named.ensures)
