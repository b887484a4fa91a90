use Rattle.aterm.proofs.Meaning.{meant_raw}
use Rattle.aterm.proofs.law.bytes_mean_the_string.Goals as goal

pub returns : goal.returns
returns c = meant_raw
