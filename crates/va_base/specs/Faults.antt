-- The phases, codes and order of faults.
use Rattle.std.specs.Prelude.{◌≡◌, ◌<◌, ℕ, ◌⊎◌, List, codes}
use Rattle.va_base.specs.declared.fault.Phase.{Phase}
use Rattle.va_base.specs.declared.fault.Phase.TheVariants as phase
use Rattle.va_base.specs.declared.fault.FaultCode.{FaultCode}
use Rattle.va_base.specs.declared.fault.FaultCode.TheVariants as code
use Rattle.va_base.specs.declared.fault.Fault.{Fault}

-- the place of a phase in the order in which texts are looked at
abbrev pub rank_of_phase : Phase → ℕ
rank_of_phase phase.Expand = 0
rank_of_phase phase.Syntax = 1
rank_of_phase phase.Size = 2
rank_of_phase phase.Names = 3
rank_of_phase phase.Types = 4
rank_of_phase phase.Rules = 5
rank_of_phase phase.Point = 6
rank_of_phase phase.C = 7

-- the number of a code
abbrev pub number_of_code : FaultCode → ℕ
number_of_code code.BadToken = 1
number_of_code code.UnknownMacro = 2
number_of_code code.MacroArgs = 3
number_of_code code.MacroSelf = 4
number_of_code code.MacroDeep = 5
number_of_code code.Conditional = 6
number_of_code code.Directive = 7
number_of_code code.MissingInclude = 8
number_of_code code.IncludeDeep = 9
number_of_code code.FileLarge = 10
number_of_code code.TokensMany = 11
number_of_code code.Syntax = 12
number_of_code code.TooDeep = 13
number_of_code code.TooLong = 14
number_of_code code.ModulesMany = 15
number_of_code code.UnknownName = 16
number_of_code code.TwiceDeclared = 17
number_of_code code.WrongKind = 18
number_of_code code.WrongAccess = 19
number_of_code code.DisciplinesDiffer = 20
number_of_code code.NotDeclaredNode = 21
number_of_code code.FunctionCycle = 22
number_of_code code.OutOfProfile = 23
number_of_code code.ArgumentCount = 24
number_of_code code.ArgumentKind = 25
number_of_code code.NotConstant = 26
number_of_code code.RealOperand = 27
number_of_code code.DdtNonLinear = 28
number_of_code code.DdtUnderBias = 29
number_of_code code.DdtInLoop = 30
number_of_code code.DdtInFunction = 31
number_of_code code.DdtTwice = 32
number_of_code code.SwitchBranch = 33
number_of_code code.FlowProbe = 34
number_of_code code.CollapseProbed = 35
number_of_code code.UnknownsMany = 36
number_of_code code.ParamsMany = 37
number_of_code code.DdxNested = 38
number_of_code code.DdxPlace = 39
number_of_code code.NoisePlace = 40
number_of_code code.NodesMany = 41
number_of_code code.PointName = 42
number_of_code code.PointValue = 43
number_of_code code.BadByte = 44
number_of_code code.CForm = 45
number_of_code code.Unbuilt = 46

-- the word by which a report names a code
abbrev pub spelling_of_code : FaultCode → List ℕ
spelling_of_code code.BadToken = codes "BadToken"
spelling_of_code code.UnknownMacro = codes "UnknownMacro"
spelling_of_code code.MacroArgs = codes "MacroArgs"
spelling_of_code code.MacroSelf = codes "MacroSelf"
spelling_of_code code.MacroDeep = codes "MacroDeep"
spelling_of_code code.Conditional = codes "Conditional"
spelling_of_code code.Directive = codes "Directive"
spelling_of_code code.MissingInclude = codes "MissingInclude"
spelling_of_code code.IncludeDeep = codes "IncludeDeep"
spelling_of_code code.FileLarge = codes "FileLarge"
spelling_of_code code.TokensMany = codes "TokensMany"
spelling_of_code code.Syntax = codes "Syntax"
spelling_of_code code.TooDeep = codes "TooDeep"
spelling_of_code code.TooLong = codes "TooLong"
spelling_of_code code.ModulesMany = codes "ModulesMany"
spelling_of_code code.UnknownName = codes "UnknownName"
spelling_of_code code.TwiceDeclared = codes "TwiceDeclared"
spelling_of_code code.WrongKind = codes "WrongKind"
spelling_of_code code.WrongAccess = codes "WrongAccess"
spelling_of_code code.DisciplinesDiffer = codes "DisciplinesDiffer"
spelling_of_code code.NotDeclaredNode = codes "NotDeclaredNode"
spelling_of_code code.FunctionCycle = codes "FunctionCycle"
spelling_of_code code.OutOfProfile = codes "OutOfProfile"
spelling_of_code code.ArgumentCount = codes "ArgumentCount"
spelling_of_code code.ArgumentKind = codes "ArgumentKind"
spelling_of_code code.NotConstant = codes "NotConstant"
spelling_of_code code.RealOperand = codes "RealOperand"
spelling_of_code code.DdtNonLinear = codes "DdtNonLinear"
spelling_of_code code.DdtUnderBias = codes "DdtUnderBias"
spelling_of_code code.DdtInLoop = codes "DdtInLoop"
spelling_of_code code.DdtInFunction = codes "DdtInFunction"
spelling_of_code code.DdtTwice = codes "DdtTwice"
spelling_of_code code.SwitchBranch = codes "SwitchBranch"
spelling_of_code code.FlowProbe = codes "FlowProbe"
spelling_of_code code.CollapseProbed = codes "CollapseProbed"
spelling_of_code code.UnknownsMany = codes "UnknownsMany"
spelling_of_code code.ParamsMany = codes "ParamsMany"
spelling_of_code code.DdxNested = codes "DdxNested"
spelling_of_code code.DdxPlace = codes "DdxPlace"
spelling_of_code code.NoisePlace = codes "NoisePlace"
spelling_of_code code.NodesMany = codes "NodesMany"
spelling_of_code code.PointName = codes "PointName"
spelling_of_code code.PointValue = codes "PointValue"
spelling_of_code code.BadByte = codes "BadByte"
spelling_of_code code.CForm = codes "CForm"
spelling_of_code code.Unbuilt = codes "Unbuilt"

-- One fault comes before another: its phase does; or, in the same phase, its token does; or, at the same token, its code has
-- the lower number.
abbrev pub ComesBefore : Fault → Fault → Type 0
ComesBefore a b =
    (rank_of_phase a.phase < rank_of_phase b.phase)
    ⊎ ((rank_of_phase a.phase ≡ rank_of_phase b.phase)
    × ((a.at < b.at) ⊎ ((a.at ≡ b.at) × (number_of_code a.code < number_of_code b.code))))
