-- The reading of an argument in the code, which borrows texts from the argument.
use Rattle.options_line.specs.Arguments.{Argument, Flag, OptionValue, OptionName, FeatureValue, BadFeatureName, VariableValue, BadVariableName, Unrecognized}
use Rattle.options_line.specs.declared.argument.Argument.{Argument as Lent}
use Rattle.options_line.specs.declared.argument.Argument.TheVariants as lent

-- The reading, with the texts themselves. (own)
abbrev pub argument_of : Lent → Argument
argument_of (lent.Flag switch) = Flag switch
argument_of (lent.OptionValue target value) = OptionValue target value.now
argument_of (lent.OptionName target) = OptionName target
argument_of (lent.FeatureValue choice) = FeatureValue choice.kind choice.name.now choice.value.now choice.option.now
argument_of lent.BadFeatureName = BadFeatureName
argument_of (lent.VariableValue name value) = VariableValue name.now value.now
argument_of lent.BadVariableName = BadVariableName
argument_of lent.Unrecognized = Unrecognized
