pub mod Interface
pub mod InterfaceLaws
pub mod RadioCallLaws
pub mod TextCalls
pub mod TextCallLaws
pub mod Cases
