use Rattle.std.proofs.Common.{refl, add-one, take-suc-set, rules}
use Rattle.aterm.proofs.rows.Rows.push.Goals as goal

pub returns : goal.returns
returns g c = record { len = refl; items = simp add-one (take-suc-set c.args.self.now.items c.args.self.now.len c.args.x (search rules)) }
