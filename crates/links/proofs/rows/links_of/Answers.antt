use Rattle.std.proofs.Common.{ℕ, ◌+◌, ◌<◌, None, Option, List, length, get_or, sym, subst, arith, rules}
use Rattle.std.proofs.ByRecursion.{All-get_or}
use Rattle.aterm.specs.Files.{input, in_input}
use Rattle.aterm.specs.Reads.{Each}
use Rattle.aterm.specs.declared.file.Input.{Input}
use Rattle.aterm.specs.declared.rows.Placed.{Placed}
use Rattle.derivation.specs.Plain.{PlainInput}
use Rattle.derivation.specs.Questions.{place_2}
use Rattle.derivation.proofs.Scan.{each_length}
use Rattle.image.specs.Files.{bytes_of, files_of}
use Rattle.store_path.proofs.Made.{made}
use Rattle.links.specs.Linked.{no_input, RowLinked}
use Rattle.links.specs.Owners.{AllNames}
use Rattle.links.specs.declared.link.Link.{Link}
use Rattle.links.proofs.Names.{accepted}
use Rattle.links.proofs.Turns.{held_at, some_row}
use Rattle.links.proofs.rows.links_of.Goals as goal

pub returns : goal.returns
returns c = λ all.
    let a = accepted c.args.file.path.now c.args.file.text.now c.read_file.result c.in_ok-d.d c.read_file.ensures c.in_ok-d.ensures.value in
    let x = a.reading.tree in
    let img = bytes_of c.args.owners.now.image.now in
    let n = files_of c.args.owners.now.image.now in
    let text = c.args.file.text.now in
    let vs = c.as_slice-inputs.result.now in
    let from = place_2 x + 1 in
    let rows = subst (λ (us : List (Placed Input)). Each input (in_input text) from us x.1.0) (sym c.as_slice-inputs.ensures) a.reading.held.1.0 in
    let count = each_length input (in_input text) from vs x.1.0 rows in
    let each = made c.from_fn-rows.result (λ (i : ℕ) (y : Option Link). AllNames c.args.owners.now → (v : Placed Input) → i < length vs → RowLinked img n text (get_or vs i v).value y) 64 None (λ i y q low called. (search rules, λ h v l. search rules)) c.from_fn-rows.ensures.items in
    record {
      tree = x;
      reads = record { written = a.reading.written; within = a.reading.within; passed = a.passed };
      count = count;
      right = λ i l.
          let v = some_row vs i l in
          let w = held_at input (in_input text) from vs x.1.0 i v no_input l rows in
          each i (omega arith) all v l w.0 (get_or x.1.0 i no_input) w.1 (All-get_or PlainInput x.1.0 i no_input (omega (arith, l, count)) a.plain.inputs);
    }
