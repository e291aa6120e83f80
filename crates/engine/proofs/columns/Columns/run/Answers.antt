use Rattle.std.proofs.Common.{◌≡◌, ℕ, ◌<◌, sym, ◌∙◌, subst, arith}
use Rattle.bus.specs.Rows.{member}
use Rattle.engine.specs.Cycle.{Slots, release, cycle, scheduled, word}
use Rattle.engine.specs.Held.{rules_of, shows, Stands, Nearer}
use Rattle.engine.proofs.Standing.{late_row_is, stands_closed}
use Rattle.engine.proofs.Serving.{word_schedules}
use Rattle.engine.proofs.WaitingRows.{member_word, word_fits, words_agree}
use Rattle.engine.proofs.columns.Columns.run.Given as given
use Rattle.engine.proofs.columns.Columns.run.Goals as goal

module _ (g : given.Over) (c : goal.After-count_down g) (t : Slots) (was : shows c.args.self.now t) where
  schedules : (r : ℕ) → r < 32 → member c.serve-schedule.result.word r ≡ scheduled (rules_of (g.P.Policy.goes c.args.rules.now.policy.now) c.args.rules.now.window) (release t) r
  schedules =
      word_schedules (g.P.Policy.goes c.args.rules.now.policy.now) c.args.rules.now.window (release t) c.line_up.new.line.items (c.line_up.ensures.queue (release t) (c.release.ensures t was))
      c.serve-schedule.ensures.served.0 c.serve-schedule.result.word c.release.new.self.lefts c.serve-schedule.new.self.lefts c.serve-schedule.ensures.served.1 c.serve-schedule.ensures.served.2

  pub by_closing : Stands c.release.new.self.kinds c.count_down.new.self.waits c.count_down.new.self.lefts (cycle (rules_of (g.P.Policy.goes c.args.rules.now.policy.now) c.args.rules.now.window) t)
  by_closing =
      stands_closed (g.P.Policy.goes c.args.rules.now.policy.now) c.args.rules.now.window t (member c.serve-schedule.result.word) c.release.new.self.kinds c.release.new.self.waits
      c.release.new.self.lefts c.serve-schedule.new.self.lefts (c.release.ensures t was) schedules c.serve-schedule.ensures.served.1.lefts c.count_down.new.self.waits
      c.count_down.new.self.lefts (subst (λ ws. Nearer ws c.count_down.new.self.waits) c.serve-schedule.ensures.waits c.count_down.ensures.waits) c.count_down.ensures.lefts

pub returns-clause-after : goal.returns-clause-after
returns-clause-after g c =
    λ t was.
    subst (λ kinds. Stands kinds c.count_down.new.self.waits c.count_down.new.self.lefts (cycle (rules_of (g.P.Policy.goes c.args.rules.now.policy.now) c.args.rules.now.window) t))
    (sym (c.count_down.ensures.kinds ∙ c.serve-schedule.ensures.kinds)) (by_closing g c t was)

pub returns-clause-word : goal.returns-clause-word
unfolding word
returns-clause-word g c =
    λ t was.
    let wanted = scheduled (rules_of (g.P.Policy.goes c.args.rules.now.policy.now) c.args.rules.now.window) (release t) in
    words_agree 32 _ _ (omega arith) (word_fits wanted 32) (λ r h. schedules g c t was r h ∙ sym (member_word wanted 32 r h))

pub returns-clause-late : goal.returns-clause-late
returns-clause-late g c =
    λ t was.
    c.first_late-late.ensures
    ∙ late_row_is (g.P.Policy.goes c.args.rules.now.policy.now) c.args.rules.now.window t (member c.serve-schedule.result.word) c.release.new.self.kinds c.release.new.self.waits
    c.release.new.self.lefts c.serve-schedule.new.self.lefts (c.release.ensures t was) (schedules g c t was) c.serve-schedule.ensures.served.1.lefts
