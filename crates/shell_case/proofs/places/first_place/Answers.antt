use Rattle.shell_case.proofs.Flags.{long_nowhere, within_ok}
use Rattle.shell_case.proofs.places.first_place.Goals as goal

pub returns-then-pieces-text-clause-place : goal.returns-then-pieces-text-clause-place
returns-then-pieces-text-clause-place c = long_nowhere c.args.pieces.now c.args.text.now c.if-pieces-text.true

pub returns-then-has_one_byte-clause-within : goal.returns-then-has_one_byte-clause-within
returns-then-has_one_byte-clause-within c = within_ok c.args.pieces.now c.args.text.now c.place_by_flags.result c.place_by_flags.ensures

pub returns-else-has_one_byte-clause-within : goal.returns-else-has_one_byte-clause-within
returns-else-has_one_byte-clause-within c = within_ok c.args.pieces.now c.args.text.now c.place_of_bytes.result c.place_of_bytes.ensures
