use Rattle.std.proofs.Common.{subst}
use Rattle.hash_modulo.specs.Sets.{Bytes}
use Rattle.right_paths.specs.Views.{file_by}
use Rattle.right_paths.specs.Worked.{full_store_path}
use Rattle.hash_modulo.specs.Paths.{file_name}
use Rattle.checker.specs.Calls.{Put}
use Rattle.checker.specs.Settling.{kind_of}
use Rattle.checker.proofs.Placing.{own_located}
use Rattle.checker.proofs.checker.locating.write_own_path.Goals as goal

pub returns-clause-put : goal.returns-clause-put
returns-clause-put g c =
    let s = g.S.Sink in
    let d = g.S.DigestSink in
    let p = c.args.of.path.now in
    let digits = c.own_path.result.value.bytes in (
      full_store_path digits (file_name p),
      own_located (kind_of s.step d.start d.capacity d.answered d.wide) p (file_by c.args.of) (s.held c.args.sink.now).meaning (s.held c.own_path.new.sink).meaning digits c.own_path.result.count c.own_path.ensures,
      subst (λ (x : Bytes). Put (full_store_path digits x) c.args.out.now c.put_path.result c.put_path.new.out) c.name_of.ensures c.put_path.ensures,
    )
