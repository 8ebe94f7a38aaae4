mod ScriptRows
