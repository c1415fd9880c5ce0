pub mod Execution
pub mod Loading
pub mod Machine
pub mod MachineLaws
pub mod NeverStuck
pub mod Runs
pub mod WorkedRuns
