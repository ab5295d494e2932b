pub mod Keypad
