-- Turn by turn one more output's path is worked out, of a string that is short.
use Rattle.std.proofs.Common.{◌≡◌, ℕ, ◌<◌, ◌++◌, List, length, get_or, codes, sym, ap, subst, arith}
use Rattle.std.proofs.lemmas.List.{get_or-map, length-map, length-take}
use Rattle.aterm.specs.declared.file.Output.{Output}
use Rattle.aterm.specs.declared.part.Span.{Span}
use Rattle.aterm.specs.declared.rows.Placed.{Placed}
use Rattle.canonical.specs.Files.{values, output_value}
use Rattle.canonical.specs.Kinds.{Value}
use Rattle.canonical.specs.Meanings.{an_output}
use Rattle.derivation.specs.Questions.{output_name}
use Rattle.hash_modulo.specs.Paths.{path_string}
use Rattle.hash_modulo.specs.Sets.{Bytes}
use Rattle.hash_modulo.specs.Strings.{no_output}
use Rattle.sink.specs.Numerals.{hex}
use Rattle.sink.specs.Write.{Step, Meaning}
use Rattle.right_paths.specs.Views.{output_by}
use Rattle.right_paths.specs.Worked.{LocatedBy, OutputsWorked}
use Rattle.right_paths.specs.declared.file_output.FileOutput.{FileOutput}
use Rattle.right_paths.specs.declared.hashes.Digits.{Digits}
use Rattle.right_paths.proofs.Rounds.{short_at, upto_more, upto_all}
use Rattle.right_paths.proofs.file.SortedFile.output_paths.Goals as goal

-- what is read past the last row
abbrev nowhere : Span
nowhere = record { start = 0; «end» = 0 }

abbrev no_row : Placed Output
no_row = record { place = 0; value = record { name = nowhere; path = nowhere; algorithm = nowhere; hash = nowhere } }

abbrev value_in : List ℕ → Placed Output → Value an_output
value_in t v = output_value t v.value

-- what is worked out for the rows of a slice, by the rows that it is of
of_rows : {f : Step} {start : List ℕ} {capacity : ℕ} {answer : List ℕ → List ℕ} {path text : Bytes} {xs ys : List (Placed Output)} {before after : Meaning} {digits : List Digits} {n : ℕ}
    (t : List ℕ) → xs ≡ ys → OutputsWorked f start capacity answer path text (values (output_value t) xs) before digits n after
    → OutputsWorked f start capacity answer path text (values (output_value t) ys) before digits n after
of_rows {f} {start} {capacity} {answer} {path} {text} {xs} {ys} {before} {after} {digits} {n} t e w =
    subst (λ (z : List (Placed Output)). OutputsWorked f start capacity answer path text (values (output_value t) z) before digits n after) e w

-- the string of an output's path
abbrev string : Bytes → FileOutput → Bytes
string h o = path_string (codes "output:" ++ (output_by o).0) (hex h) (output_name o.path.now (output_by o).0)

pub path_by-located-requires : goal.path_by-located-requires
path_by-located-requires g c =
    let t = c.args.self.now.text.now in
    let w : length c.args.masked ≡ 32 = omega arith in
    subst (λ (o : FileOutput). length (string c.args.masked o) < 1048576) (sym c.output.ensures)
    (short_at (value_in t) c.as_slice-rows.result.now c.loop-i.i no_row c.args.masked (sym (ap (values (output_value t)) c.as_slice-rows.ensures)) c.requires w c.loop-i-test.true)

pub overflow_add-count : goal.overflow_add-count
overflow_add-count g c =
    let t = c.args.self.now.text.now in
    let v = c.args.self.now.file.now.outputs in
    let w : length c.args.masked ≡ 32 = omega arith in
    let s = short_at (value_in t) c.as_slice-rows.result.now c.loop-i.i no_row c.args.masked (sym (ap (values (output_value t)) c.as_slice-rows.ensures)) c.requires w c.loop-i-test.true in
    let z = ap (λ (o : FileOutput). length (string c.args.masked o)) c.output.ensures in
    omega (arith, s, z, c.loop-i.invariant.few, c.path_by-located.ensures.pours.count, c.loop-i-test.true, ap length c.as_slice-rows.ensures, length-take v.len v.items, v.fits)

pub loop-i-preserved : goal.loop-i-preserved
loop-i-preserved g c =
    let t = c.args.self.now.text.now in
    let v = c.args.self.now.file.now.outputs in
    let xs = c.as_slice-rows.result.now in
    let i = c.loop-i.i in
    let w : length c.args.masked ≡ 32 = omega arith in
    let s = g.S.Sink in
    let d = g.S.DigestSink in
    let located = subst (λ (o : FileOutput). LocatedBy s.step d.start d.capacity d.answered (s.held c.loop-i.sink).meaning (string c.args.masked o) c.path_by-located.result.value.bytes c.path_by-located.result.count (s.held c.path_by-located.new.sink).meaning) c.output.ensures c.path_by-located.ensures in
    upto_more c.path_by-located.result.value (value_in t (get_or xs i no_row)) c.loop-i.invariant
    (omega (arith, length-map xs (value_in t), c.loop-i-test.true))
    (omega (arith, c.loop-i-test.true, ap length c.as_slice-rows.ensures, length-take v.len v.items, v.fits))
    (sym (get_or-map (value_in t) xs i no_row no_output c.loop-i-test.true))
    located
    (short_at (value_in t) xs i no_row c.args.masked (sym (ap (values (output_value t)) c.as_slice-rows.ensures)) c.requires w c.loop-i-test.true)

pub returns : goal.returns
returns g c text e =
    let t = c.args.self.now.text.now in
    let v = c.args.self.now.file.now.outputs in
    let xs = c.as_slice-rows.result.now in
    of_rows t c.as_slice-rows.ensures
    (upto_all c.loop-i.invariant
    (omega (arith, length-map xs (value_in t), c.loop-i-test.false, c.loop-i.auto.i-end))
    (omega (arith, c.loop-i.auto.i-end, ap length c.as_slice-rows.ensures, length-take v.len v.items, v.fits)) text e)
