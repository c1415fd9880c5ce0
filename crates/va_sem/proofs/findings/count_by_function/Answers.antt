use Rattle.va_sem.proofs.LookedAtArguments.{all_looked_at, first_looked_at}
use Rattle.va_sem.proofs.findings.count_by_function.Goals as goal

pub returns-in-Temperature : goal.returns-in-Temperature
returns-in-Temperature c = rw c.in-Temperature.is (all_looked_at c.args.args.now 0)

pub returns-in-ThermalVoltage : goal.returns-in-ThermalVoltage
returns-in-ThermalVoltage c = rw c.in-ThermalVoltage.is (all_looked_at c.args.args.now 0)

pub returns-in-Limit : goal.returns-in-Limit
returns-in-Limit c = rw c.in-Limit.is (first_looked_at c.args.args.now)

pub returns-in-SimParam : goal.returns-in-SimParam
returns-in-SimParam c = rw c.in-SimParam.is (all_looked_at c.args.args.now 0)

pub returns-in-ParamGiven : goal.returns-in-ParamGiven
returns-in-ParamGiven c = rw c.in-ParamGiven.is (all_looked_at c.args.args.now 0)
