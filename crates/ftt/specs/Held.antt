-- The state that a master stands for. Assumes nothing.
use Rattle.std.specs.Prelude.{ℕ}
use Rattle.engine.specs.Held.{slots}
use Rattle.ftt.specs.declared.master.Master.{Master}
use Rattle.ftt.specs.declared.watch.IdleWatch.{IdleWatch}
use Rattle.rules.specs.Calls.{State}

-- with so many triggers lost in a row
abbrev pub standing : {P : Type 0} → Master P → ℕ → State P
standing m lost = record { slots = slots m.rows; window = m.window; policy = m.policy; lost = lost }

abbrev pub stands : {P : Type 0} → Master P → IdleWatch → State P
stands m watch = standing m watch.lost
