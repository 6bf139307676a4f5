use Rattle.std.proofs.Common.{rules}
use Rattle.limits.proofs.Laws.Made.{made}
use Rattle.buffers.specs.Bytes.{number2}
use Prim.Native.Nat.{◌+◌, ◌*◌}
use Rattle.frames.proofs.cells_of.Goals as goal

pub returns : goal.returns
returns c = made _ (λ k. number2 c.args.bytes.now (4 + 2 * k)) _ (λ k x c' call. search rules) _ 16 c.from_fn.ensures.items
