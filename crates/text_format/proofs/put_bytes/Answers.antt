-- `text_format::put_bytes` meets its contract, by `Copied`. Assumes nothing.
use Rattle.std.proofs.Common.{arith, ◌≡◌, length}
use Rattle.text_format.specs.CopiedBytes.{copied_none, copied_more, copied_all}
use Rattle.text_format.proofs.put_bytes.Goals as goal

pub loop-i-init : goal.loop-i-init
loop-i-init c = copied_none _ _

pub loop-i-preserved : goal.loop-i-preserved
loop-i-preserved c = copied_more _ _ _ _ c.loop-i.invariant (omega arith) (omega arith)

pub returns : goal.returns
returns c =
    let e : c.loop-i.i ≡ length c.args.word.now = omega (arith, c.loop-i.invariant.within) in
    rw e at (copied_all _ _ _ _ c.loop-i.invariant (omega arith))
