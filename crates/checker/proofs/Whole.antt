-- The laws of calls together.
use Rattle.checker.specs.Theorem.{MainTheorem}
use Rattle.checker.proofs.Answering.{sound_hashes_hold, every_call_answers}
use Rattle.checker.proofs.Buffers.{refused_stays, written_stays}
use Rattle.checker.proofs.Counting.{count_is_rise}
use Rattle.checker.proofs.Keeping.{fresh_sound}
use Rattle.checker.proofs.Opening.{some_opening, one_opening}
use Rattle.checker.proofs.Playing.{every_list_runs}
use Rattle.checker.proofs.Rewriting.{rewritten_alike, rewritten_again, canonical_again}
use Rattle.checker.proofs.Rising.{totals_rise}
use Rattle.checker.proofs.Single.{one_call_answer}
use Rattle.checker.proofs.Steps.{sound_steps, runs_split, totals_small}
use Rattle.checker.proofs.Telling.{client_theorem, run_theorem}

pub main_theorem : MainTheorem
main_theorem = record {
  client = client_theorem;
  right = run_theorem;
  fresh = fresh_sound;
  sound = sound_steps;
  refused = refused_stays;
  written = written_stays;
  split = runs_split;
  rise = count_is_rise;
  small = totals_small;
  rises = totals_rise;
  opening = some_opening;
  one_opening = one_opening;
  answered = every_call_answers;
  hashes = sound_hashes_hold;
  lists = every_list_runs;
  one = one_call_answer;
  alike = rewritten_alike;
  again = rewritten_again;
  canonical = canonical_again;
}
