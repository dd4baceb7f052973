mod BriefLaws
mod Briefly
