pub mod FrontTwo
pub mod RelatedCalls
pub mod SumLaws
pub mod CutLaws
pub mod FrontTwoLaws
pub mod ZeroBranchLaws
pub mod Cases
