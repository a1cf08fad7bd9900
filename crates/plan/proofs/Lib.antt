pub mod FileByFile
