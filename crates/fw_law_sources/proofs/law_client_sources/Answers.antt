use Rattle.fw_law_sources.proofs.Requests.{client_made, client_sourced}
use Rattle.fw_law_sources.proofs.law_client_sources.Goals as goal

pub returns : goal.returns
returns c = record { made = client_made; sources = client_sourced }
