use Rattle.fw_law_frames.proofs.Sending.{sent_plain}
use Rattle.fw_law_frames.proofs.Asking.{client_plain}
use Rattle.fw_law_frames.proofs.Sharing.{executor_plain}
use Rattle.fw_law_frames.proofs.Joining.{filter_plain}
use Rattle.fw_law_frames.proofs.law_frames.Goals as goal

pub returns : goal.returns
returns c = record { agreement = sent_plain; client = client_plain; executor = executor_plain; filter = filter_plain }
