use Rattle.orders.specs.declared.selector.Selector.TheVariants.{RateMonotonic}
use Rattle.session.specs.Sessions.{calls_of}
use Rattle.session.proofs.Sessions.{lines_run, line_printed}
use Rattle.session.proofs.session.Session.new.Goals as goal

pub returns : goal.returns
returns c =
    record {
      made = c.new.ensures.made;
      promise = record {
        leaves = lines_run;
        prints = line_printed;
        kept = λ lines. c.new.ensures.promise.kept RateMonotonic (calls_of lines);
      };
    }
