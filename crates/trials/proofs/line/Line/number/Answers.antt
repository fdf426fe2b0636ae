use Rattle.trials.proofs.Gathering.{more_field}
use Rattle.trials.proofs.line.Line.number.Goals as goal

pub returns : goal.returns
returns c =
    record {
      places = c.decimal-k.result;
      fewest = c.decimal-k.ensures.len;
      text = more_field c.args.self _ c.byte.ensures c.text.ensures c.decimal-k.ensures.digits;
    }
