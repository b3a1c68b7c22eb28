-- `text_parse::digits_to` meets its contract. The loop's invariant, `Scanned`: scanning the bytes that are left, from the number so far, gives what scanning
-- them all gives. Assumes nothing.
use Rattle.text_parse.specs.ByteLoops.{below-digits, above-digits, past_most, scanned-more, scanned-all}
use Rattle.text_parse.proofs.digits_to.Goals as goal
use Rattle.text_parse.proofs.digits_to.Goals.{then-b-lt48-via-then-b-lt48, then-b-lt48-via-else-b-lt48+then-b-gt57}

pub returns-then-b-lt48 : goal.returns-then-b-lt48
returns-then-b-lt48 c =
    elim c.then-b-lt48.branch [
      | then-b-lt48-via-then-b-lt48 w ↦ search below-digits
      | then-b-lt48-via-else-b-lt48+then-b-gt57 w ↦ search above-digits
    ]

pub returns-then-from-v : goal.returns-then-from-v
returns-then-from-v c = search past_most

pub loop-b-preserved : goal.loop-b-preserved
loop-b-preserved c = search scanned-more

pub returns : goal.returns
returns c = search scanned-all
