use Rattle.aterm.proofs.Total.{every_text}
use Rattle.aterm.proofs.law.every_text_is_judged.Goals as goal

pub returns : goal.returns
returns c = every_text
