use Rattle.checker.proofs.Rewriting.{rewritten_alike, rewritten_again, canonical_again}
use Rattle.checker.proofs.laws.rewriting_stands.Goals as goal

pub returns : goal.returns
returns c = record { alike = rewritten_alike; again = rewritten_again; canonical = canonical_again }
