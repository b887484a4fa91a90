-- A file is fixed or not, and each way what is worked out after its own path makes up the whole.
use Rattle.std.proofs.Common.{◌<◌, length, sym, subst}
use Rattle.canonical.specs.Kinds.{Value}
use Rattle.canonical.specs.Meanings.{an_output}
use Rattle.hash_modulo.specs.Hashes.{fixed_string}
use Rattle.hash_modulo.proofs.Lengths.{fixed_short}
use Rattle.right_paths.specs.Views.{output_by}
use Rattle.right_paths.specs.Worked.{FixedShort, FixedRest}
use Rattle.right_paths.specs.declared.file_output.FileOutput.{FileOutput}
use Rattle.right_paths.proofs.Fixing.{paths_short}
use Rattle.right_paths.proofs.Outcomes.{other_output, fixed_file, text_file}
use Rattle.right_paths.proofs.file.SortedFile.hash.Goals as goal

pub hash_fixed-requires : goal.hash_fixed-requires
hash_fixed-requires g c =
    let x = c.in-Some.ensures.0 in
    let e = c.in-Some.ensures.1 in
    let at = sym c.output.ensures in
    record {
      short = subst (λ (f : FileOutput). length (fixed_string (output_by f)) < 1048576) at (subst (λ (o : Value an_output). length (fixed_string o) < 1048576) e (fixed_short c.requires.limits x));
      paths = subst (λ (f : FileOutput). FixedShort f.path.now (output_by f)) at (subst (FixedShort c.args.self.now.path.now) e (paths_short c.requires.limits x));
      few = c.own_path-own.ensures.few;
    }

pub returns-in-Some : goal.returns-in-Some
returns-in-Some g c h aligned =
    let s = g.S.Sink in
    let d = g.S.DigestSink in
    let x = c.in-Some.ensures.0 in
    let rest = subst (λ (f : FileOutput). FixedRest s.step d.start d.capacity d.answered f.path.now (output_by f) c.own_path-own.result (s.held c.own_path-own.new.sink).meaning c.hash_fixed.result (s.held c.hash_fixed.new.sink).meaning) c.output.ensures c.hash_fixed.ensures in
    fixed_file c.own_path-own.ensures h x (other_output (sym c.in-Some.ensures.1) rest)

pub returns-in-None : goal.returns-in-None
returns-in-None g c h aligned =
    let z = c.hash_text.ensures h aligned in
    text_file c.own_path-own.ensures h c.in-None.ensures z.1 z.2
