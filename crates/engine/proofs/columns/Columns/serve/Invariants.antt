use Rattle.std.proofs.Common.{◌≡◌, ◌≤◌, take}
use Rattle.engine.specs.Held.{total, Served}
use Rattle.engine.proofs.columns.Columns.serve.Given as goal

abbrev pub invariant-loop-next : goal.invariant-loop-next
invariant-loop-next l =
    (l.self.kinds ≡ l.fn.self.kinds) × (l.self.waits ≡ l.fn.self.waits) × (l.taken ≤ l.window) × (l.taken ≡ total (take l.next-index l.line.items))
    × Served l.line.items l.window l.next-index l.word l.fn.self.lefts l.self.lefts
