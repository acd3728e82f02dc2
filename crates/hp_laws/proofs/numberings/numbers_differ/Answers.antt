-- An odd number is a processor's, an even one the operation's own.
use Rattle.hp_laws.proofs.Numbered.{differ, fixed_number, later}
use Rattle.hp_laws.proofs.numberings.numbers_differ.Goals as goal

pub returns-clause-differ : goal.returns-clause-differ
returns-clause-differ c fixed latest = differ fixed latest

pub returns-clause-later : goal.returns-clause-later
returns-clause-later c fixed latest op all = later fixed latest op all

pub returns-clause-fixed : goal.returns-clause-fixed
returns-clause-fixed c fixed latest op below = fixed_number fixed latest op below
