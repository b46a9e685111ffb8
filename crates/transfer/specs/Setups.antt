-- What a channel says of its transfer before a byte is read, as the code works it out once.
use Rattle.ground_rules.specs.declared.Channel.{Channel}
use Rattle.transfer.specs.declared.Setup.{Setup}
use Rattle.transfer_rules.specs.Sides.{source, destination, word_side, two_move, stored_singly}

-- what a channel says of its transfer before a byte is read
unfoldable pub setup_of : Channel → Setup
setup_of c =
    record {
      source = source c;
      destination = destination c;
      two = two_move c;
      singly = stored_singly c;
      fromWord = word_side (source c);
      intoWord = word_side (destination c);
    }
