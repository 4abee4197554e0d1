use Rattle.bsv_check.proofs.Answered as answered
use Rattle.bsv_check.proofs.checking.check.Goals as goal

pub returns-clause-twice_defined : goal.returns-clause-twice_defined
returns-clause-twice_defined c = answered.twice_defined_stands c.check_all.result _ c.check_all.ensures

pub returns-clause-bad_attribute : goal.returns-clause-bad_attribute
returns-clause-bad_attribute c = answered.bad_attribute_stands c.check_all.result _ c.check_all.ensures

pub returns-clause-unknown_name : goal.returns-clause-unknown_name
returns-clause-unknown_name c = answered.unknown_name_stands c.check_all.result _ c.check_all.ensures

pub returns-clause-type_fault : goal.returns-clause-type_fault
returns-clause-type_fault c = answered.type_fault_stands c.check_all.result _ c.check_all.ensures

pub returns-clause-width_fault : goal.returns-clause-width_fault
returns-clause-width_fault c = answered.width_fault_stands c.check_all.result _ c.check_all.ensures
